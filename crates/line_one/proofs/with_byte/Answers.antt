-- A number of two digits after a byte: among them, before them or behind them.
use mathlib.Core.Path.{sym, ◌∙◌}
use mathlib.Core.Logic.{⊎_elim}
use Prim.Native.Nat.{◌+◌, ◌≤◌, ◌<◌}
use native.Mathlib.Omega.{arith}
use Rattle.std.proofs.lemmas.Bool.Decides.{nat_tests, when_false}
use Rattle.pieces.proofs.Words.{byte_among, byte_before, byte_behind}
use Rattle.line_one.proofs.with_byte.Goals as goal

pub returns-then-contains : goal.returns-then-contains
returns-then-contains c =
    let p = c.args in
    let from : p.at ≤ p.offset = grind (arith, nat_tests, c.contains.ensures.value) in
    let upto : p.offset < p.at + 2 = grind (arith, nat_tests, c.contains.ensures.value) in
    c.digit_more.ensures ∙ sym (byte_among p.at 2 p.offset p.byte p.value from upto)

pub returns : goal.returns
returns c =
    let p = c.args in
    ⊎_elim
    (λ no_from. let before : p.offset < p.at = grind (arith, nat_tests) in sym (byte_before p.at 2 p.offset p.byte p.value before))
    (λ no_upto. let behind : p.at + 2 ≤ p.offset = grind (arith, nat_tests) in sym (byte_behind p.at 2 p.offset p.byte p.value (omega arith) behind))
    (when_false _ _ c.if-contains.false c.contains.ensures.cases)
