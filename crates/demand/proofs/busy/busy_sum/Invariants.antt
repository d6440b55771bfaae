-- The loop of `busy_sum`: what lasts from turn to turn.
use mathlib.Core.Path.{◌≡◌}
use Rattle.laws.specs.Sum.{total}
use Rattle.model.specs.Demand.{busy_of}
use Rattle.columns.specs.Checked.{checked_sheet}
use Rattle.demand.proofs.busy.busy_sum.Given as goal

abbrev pub invariant-loop-row : goal.invariant-loop-row
invariant-loop-row l = l.sum ≡ total (busy_of (checked_sheet l.checked) l.length) l.row
