-- The loop of `climb`: it stands where a climb from the first value stands. What is left to the top falls.
use Prim.Native.Nat.{ℕ, ◌+◌, ◌-◌, ◌≤◌}
use Rattle.laws.proofs.Climb.{Climbed}
use Rattle.climb.specs.Climbing.{Images}
use Rattle.climb.proofs.climb.Given as goal

abbrev pub invariant-loop-x : goal.invariant-loop-x
invariant-loop-x g l = (l.first ≤ l.x) × ((f : ℕ → ℕ) → Images (goal.F-post g l.image) l.first l.top f → Climbed f l.first l.x)

abbrev pub decreases-loop-x : goal.decreases-loop-x
decreases-loop-x g l = l.top + 1 - l.x
