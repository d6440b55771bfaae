-- What may stand at a place of a line: each test of the code is the definition's.
use mathlib.Core.Path.{sym, ◌∙◌, ap}
use Prim.Native.Nat.{ℕ}
use native.Mathlib.Omega.{arith}
use lib.Dec.{ltb}
use Rattle.digits.specs.Digits.{is_digit}
use Rattle.grammar.proofs.Grammar.{line-zero, line_kind, line_end, line_digit}
use Rattle.form.proofs.line_allows.Goals as goal

pub returns-then-place-eq0 : goal.returns-then-place-eq0
returns-then-place-eq0 c =
    let p = c.args in
    sym (line-zero p.kind p.last p.place p.byte c.if-place-eq0.true)

pub returns-then-place-eq1 : goal.returns-then-place-eq1
returns-then-place-eq1 c =
    let p = c.args in
    sym (line_kind p.kind p.last p.place p.byte c.if-place-eq1.true)

pub returns-then-place-last : goal.returns-then-place-last
returns-then-place-last c =
    let p = c.args in
    sym (line_end p.kind p.last p.place p.byte (omega arith) c.if-place-last.true)

pub returns : goal.returns
unfolding is_digit
returns c =
    let p = c.args in
    ap (λ (value : ℕ). ltb value 16) c.digit_value.ensures
    ∙ sym (line_digit p.kind p.last p.place p.byte (omega arith) c.if-place-last.false)
