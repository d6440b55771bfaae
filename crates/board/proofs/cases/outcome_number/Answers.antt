-- `outcome_number` gives each case the number that its definition gives it.
use mathlib.Core.Path.{sym, ap}
use Rattle.verdict.specs.OneProcessor.{outcome_number}
use Rattle.board.proofs.cases.outcome_number.Goals as goal

pub returns-in-Undecided : goal.returns-in-Undecided
unfolding outcome_number
returns-in-Undecided c = ap outcome_number (sym c.in-Undecided.is)

pub returns-in-Miss : goal.returns-in-Miss
unfolding outcome_number
returns-in-Miss c = ap outcome_number (sym c.in-Miss.is)

pub returns-in-Fits : goal.returns-in-Fits
unfolding outcome_number
returns-in-Fits c = ap outcome_number (sym c.in-Fits.is)
