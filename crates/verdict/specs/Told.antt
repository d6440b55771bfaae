-- The answer as the code gives it, by numbers and places.
use Rattle.std.specs.Prelude.{Result, Ok, Err}
use Rattle.refusals.specs.declared.Refusal.{Refusal as Why}
use Rattle.refusals.specs.Told.{told}
use Rattle.verdict.specs.declared.Outcome.{Outcome}
use Rattle.verdict.specs.declared.Outcome.TheVariants.{Undecided}
use Rattle.verdict.specs.OneProcessor.{Answer}

-- Refused, it says Undecided.
abbrev pub outcome_said : Result Outcome Why → Answer
outcome_said (Ok outcome) = record { refusal = 0; place = 0; outcome = outcome }
outcome_said (Err why) = record { refusal = (told why).number; place = (told why).place; outcome = Undecided }
