-- Line one with a byte more: each of its two numbers takes the byte by itself.
use mathlib.Core.Path.{ap₂}
use Prim.Native.Nat.{ℕ, ◌+◌}
use Rattle.pieces.specs.Feeding.{reached_with}
use Rattle.line_one.proofs.reached_with.Goals as goal

pub returns : goal.returns
unfolding reached_with
returns c =
    let p = c.args in
    ap₂ (λ (processors rows : ℕ). record { taken = p.reached.taken + 1; wrong = p.reached.wrong; processors = processors; rows = rows })
    c.with_byte.ensures c.with_byte-2.ensures
