-- The answer of the exact test in numbers: each part of it, its enum by a number and a length.
use Rattle.verdict.specs.OneProcessor.{outcome_number, outcome_value}
use Rattle.board.specs.Face.{outcome_in_numbers}
use Rattle.board.proofs.cases.OutcomeNumbersFromResultOutcomeRefusal.from.Goals as goal

pub returns-in-Ok : goal.returns-in-Ok
unfolding outcome_in_numbers
returns-in-Ok c = rw (c.in-Ok.is, c.outcome_number.ensures, c.outcome_value.ensures)

pub returns-in-Err : goal.returns-in-Err
unfolding outcome_in_numbers outcome_number outcome_value
returns-in-Err c = rw (c.in-Err.is, c.number.ensures, c.place.ensures)
