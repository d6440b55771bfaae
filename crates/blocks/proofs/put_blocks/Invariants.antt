-- The loop of `put_blocks`: in front stand the blocks so far, each of one length, and behind them what stood there.
use Rattle.std.proofs.Common.{◌≡◌, ◌*◌, List, ◌++◌, ℕ, length, drop}
use Rattle.laws.specs.Fill.{joined}
use Rattle.blocks.specs.Blocks.{Writes}
use Rattle.blocks.proofs.put_blocks.Given as goal

abbrev pub invariant-loop-place : goal.invariant-loop-place
invariant-loop-place g l =
    (length l.out ≡ length l.initial.out)
    × ((block : ℕ → List ℕ) → Writes (goal.F-post g l.put) l.size l.count block → l.out ≡ joined block l.place ++ drop (l.size * l.place) l.initial.out)
