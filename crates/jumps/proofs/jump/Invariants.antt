-- The loop of `jump`: what lasts from turn to turn, and what falls.
use Prim.Native.Nat.{◌≤◌}
use Rattle.jumps.proofs.jump.Given as goal

abbrev pub invariant-loop-far : goal.invariant-loop-far
invariant-loop-far l = l.far ≤ l.most

abbrev pub decreases-loop-far : goal.decreases-loop-far
decreases-loop-far l = l.far
