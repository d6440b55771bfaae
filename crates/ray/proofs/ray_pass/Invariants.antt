-- The loop of `ray_pass`: the rows so far have made a step down the ray, and the drops are as they were.
use lib.ListN.{length}
use Prim.Native.Nat.{◌≤◌}
use mathlib.Core.Path.{◌≡◌}
use Rattle.model.proofs.Ray.{OnRay}
use Rattle.refinement.specs.Asked.{sheet, ask}
use Rattle.ray.proofs.ray_pass.Given as goal

abbrev pub invariant-loop-row : goal.invariant-loop-row
invariant-loop-row l =
    record {
      same_length : length l.bounds ≡ length l.initial.bounds;
      same_drops : l.drops.each ≡ l.initial.drops.each;
      on_ray : OnRay (sheet l.asked) (ask l.asked) l.initial.bounds l.initial.drops.each l.row l.steps l.bounds;
      fewer : l.steps ≤ l.most;
    }
