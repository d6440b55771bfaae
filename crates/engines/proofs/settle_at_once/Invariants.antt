-- The loop of `settle_at_once`: the bounds are on the way, and their sum falls.
use Prim.Native.Nat.{◌≤◌}
use Rattle.refinement.specs.Asked.{sheet, Underway}
use Rattle.refinement.specs.Inner.{bounds_sum}
use Rattle.engines.proofs.settle_at_once.Given as goal

abbrev pub invariant-loop-seen : goal.invariant-loop-seen
invariant-loop-seen l = Underway l.asked l.bounds × (l.sweeps ≤ 7)

abbrev pub decreases-loop-seen : goal.decreases-loop-seen
decreases-loop-seen l = bounds_sum (sheet l.asked) l.bounds
