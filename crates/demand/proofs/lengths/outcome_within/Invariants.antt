-- The loops of `outcome_within`: what lasts from turn to turn, and what falls.
use Prim.Native.Nat.{◌+◌, ◌-◌}
use Rattle.columns.specs.Checked.{checked_sheet}
use Rattle.verdict.proofs.Looked.{Looked, Cleared}
use Rattle.demand.proofs.lengths.outcome_within.Given as goal

abbrev pub invariant-loop-row : goal.invariant-loop-row
invariant-loop-row l = Looked (checked_sheet l.checked) l.last l.length l.row l.sum l.next

abbrev pub invariant-loop-length : goal.invariant-loop-length
invariant-loop-length l = Cleared (checked_sheet l.checked) l.last l.length

abbrev pub decreases-loop-length : goal.decreases-loop-length
decreases-loop-length l = l.last + 1 - l.length
