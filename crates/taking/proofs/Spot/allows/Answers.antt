-- What may stand at a spot: nothing past the announced length, else what its place in a row's line allows.
use mathlib.Core.Path.{sym, ◌∙◌, ap}
use Prim.Native.Nat.{ℕ}
use native.Mathlib.Omega.{arith}
use borrow.Author.Tests.{lt-ltb, le-ltb}
use Rattle.laws.proofs.Choice.{pick_yes, pick_no}
use Rattle.grammar.specs.Grammar.{head, line, line_allows}
use Rattle.pieces.specs.Inner.{row_allows}
use Rattle.taking.proofs.Spot.allows.Goals as goal

pub returns-then-full-self : goal.returns-then-full-self
unfolding row_allows
returns-then-full-self c =
    let p = c.args in
    sym (pick_no _ _ _ (le-ltb p.self.taken p.full c.if-full-self.true))

pub returns : goal.returns
unfolding row_allows head line
returns c =
    let p = c.args in
    c.line_allows.ensures
    ∙ ap (λ (place : ℕ). line_allows 0x32 20 place p.byte) p.self.in_line
    ∙ sym (pick_yes _ _ _ (lt-ltb p.self.taken p.full (omega arith)))
