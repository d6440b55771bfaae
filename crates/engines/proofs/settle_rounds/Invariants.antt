-- The loop of `settle_rounds`: the bounds are on the way, and their sum falls.
use Rattle.refinement.specs.Asked.{sheet, Underway}
use Rattle.refinement.specs.Inner.{bounds_sum}
use Rattle.engines.proofs.settle_rounds.Given as goal

abbrev pub invariant-loop-seen : goal.invariant-loop-seen
invariant-loop-seen l = Underway l.asked l.bounds

abbrev pub decreases-loop-seen : goal.decreases-loop-seen
decreases-loop-seen l = bounds_sum (sheet l.asked) l.bounds
