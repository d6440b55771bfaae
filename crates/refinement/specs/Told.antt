-- The answers as the code gives them, by numbers and places.
use Rattle.std.specs.Prelude.{ℕ, Result, Ok, Err, None}
use Rattle.refusals.specs.declared.Refusal.{Refusal as Why}
use Rattle.rows.specs.Words.{Found}
use Rattle.refusals.specs.Told.{told}
use Rattle.refinement.specs.declared.Refined.{Refined}
use Rattle.refinement.specs.Question.{OneRow}

-- The one-row answer: a bound or none; refused, it finds nothing.
abbrev pub row_said : Result Found Why → OneRow
row_said (Ok answer) = record { refusal = 0; place = 0; answer = answer }
row_said (Err why) = record { refusal = (told why).number; place = (told why).place; answer = None }

-- The marks of a refinement; refused, there are none.
abbrev pub marks_said : Result ℕ Why → Refined
marks_said (Ok marks) = record { refusal = 0; place = 0; marks = marks }
marks_said (Err why) = record { refusal = (told why).number; place = (told why).place; marks = 0 }
