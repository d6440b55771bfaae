-- The answer as the code gives it, by numbers and places.
use Rattle.std.specs.Prelude.{Result, Ok, Err}
use Rattle.refusals.specs.declared.Refusal.{Refusal as Why}
use Rattle.refusals.specs.Told.{told}
use Rattle.quick_look.specs.declared.Reply.{Reply}
use Rattle.quick_look.specs.declared.Reply.TheVariants.{Unsure}
use Rattle.quick_look.specs.DensityTest.{DensityAnswer}

-- Refused, it says Unsure.
abbrev pub reply_said : Result Reply Why → DensityAnswer
reply_said (Ok reply) = record { refusal = 0; place = 0; answer = reply }
reply_said (Err why) = record { refusal = (told why).number; place = (told why).place; answer = Unsure }
