-- `outcome_value` gives each case the length that its definition gives it.
use mathlib.Core.Path.{sym, ap}
use Rattle.verdict.specs.OneProcessor.{outcome_value}
use Rattle.board.proofs.cases.outcome_value.Goals as goal

pub returns-in-Undecided : goal.returns-in-Undecided
unfolding outcome_value
returns-in-Undecided c = ap outcome_value (sym c.in-Undecided.is)

pub returns-in-Miss : goal.returns-in-Miss
unfolding outcome_value
returns-in-Miss c = ap outcome_value (sym c.in-Miss.is)

pub returns-in-Fits : goal.returns-in-Fits
unfolding outcome_value
returns-in-Fits c = ap outcome_value (sym c.in-Fits.is)
