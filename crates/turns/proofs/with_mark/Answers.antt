-- `with_mark` sets a bit above all those seen, so that or is plus.
use mathlib.Core.Path.{◌≡◌, ◌∙◌}
use Prim.Native.Nat.{ℕ, ◌+◌, ◌*◌, ◌^◌, ◌%◌, ◌<◌}
use native.Mathlib.Nat.{add_comm}
use lib.Pow.{shl_exact}
use lib.Bits.{bit_or, or_shifted_r}
use Rattle.refinement.specs.Inner.{is_found}
use native.Mathlib.Omega.{arith}
use Rattle.turns.proofs.with_mark.Goals as goal

above : (seen row : ℕ) → row < 64 → seen < 2 ^ row → bit_or seen ((1 * 2 ^ row) % 2 ^ 64) ≡ seen + 1 * 2 ^ row
above seen row inside small =
    rw (shl_exact {a = 1} 1 row 64 (omega arith) (omega arith)) (or_shifted_r 1 row seen small ∙ add_comm (1 * 2 ^ row) seen)

pub returns-in-Some : goal.returns-in-Some
unfolding is_found
returns-in-Some c = rw c.in-Some.is (above c.args.seen c.args.row c.requires.0 c.requires.1)

pub returns-in-None : goal.returns-in-None
unfolding is_found
returns-in-None c = rw c.in-None.is (omega arith)
