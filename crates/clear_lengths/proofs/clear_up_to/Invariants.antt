-- The loop of `clear_up_to`: what lasts from turn to turn, and what falls.
use Prim.Native.Nat.{◌+◌, ◌-◌, ◌≤◌, ◌<◌}
use Rattle.columns.specs.Checked.{checked_sheet}
use Rattle.verdict.specs.Inner.{Clear}
use Rattle.clear_lengths.proofs.clear_up_to.Given as goal

abbrev pub invariant-loop-gap : goal.invariant-loop-gap
invariant-loop-gap l = (l.gap.clear < l.gap.stopped) × (l.gap.stopped ≤ l.last + 1) × (l.middle < l.gap.stopped) × Clear (checked_sheet l.checked) 0 l.gap.clear

abbrev pub decreases-loop-gap : goal.decreases-loop-gap
decreases-loop-gap l = l.gap.stopped - l.gap.clear
