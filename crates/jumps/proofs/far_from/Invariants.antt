-- The loop of `far_from`: what lasts from turn to turn, and what falls.
use Prim.Native.Nat.{◌-◌, ◌≤◌}
use Rattle.jumps.proofs.far_from.Given as goal

abbrev pub invariant-loop-far : goal.invariant-loop-far
invariant-loop-far l = l.far ≤ l.sought.top - l.x

abbrev pub decreases-loop-far : goal.decreases-loop-far
decreases-loop-far l = l.far
