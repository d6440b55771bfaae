-- The loop of `step_down`: the lower bounds of the rows so far, and the others' as they were.
use mathlib.Core.Path.{◌≡◌}
use mathlib.Core.List.{◌++◌}
use Prim.Native.Nat.{◌*◌, ◌-◌}
use lib.ListN.{get_or, drop}
use Rattle.laws.specs.Fill.{listed}
use Rattle.ray.proofs.step_down.Given as goal

abbrev pub invariant-loop-row : goal.invariant-loop-row
invariant-loop-row l = l.bounds ≡ listed (λ i. get_or l.initial.bounds i 0 - l.steps * get_or l.drops.each i 0) l.row ++ drop l.row l.initial.bounds
