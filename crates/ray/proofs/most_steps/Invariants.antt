-- The loop of `most_steps`: every row so far has room for so many steps.
use Prim.Native.Nat.{ℕ, ◌+◌, ◌*◌, ◌≤◌, ◌<◌}
use lib.ListN.{get_or}
use Rattle.refinement.specs.Asked.{sheet}
use Rattle.ray.proofs.most_steps.Given as goal

abbrev pub invariant-loop-row : goal.invariant-loop-row
invariant-loop-row l = (i : ℕ) → i < l.row → l.most * get_or l.drops.each i 0 + (sheet l.given.asked).cost i ≤ get_or l.given.bounds.now i 0
