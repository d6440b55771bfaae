-- `check_shape` meets its contract: an empty list has no row, and the other tests are the definition's, in their order.
use mathlib.Core.Path.{◌≡◌, sym, ◌∙◌, ap}
use mathlib.Core.Bool.{false, not}
use Prim.Native.Nat.{ℕ}
use native.Mathlib.Omega.{arith}
use borrow.Author.Tests.{eq-eqb, ne_eqb, eqb-true, eqb-false, lt-ltb}
use Rattle.laws.proofs.Choice.{pick_yes, pick_no}
use Rattle.model.specs.Sheet.{triples}
use Rattle.rows.specs.Words.{sheet_of}
use Rattle.refusals.specs.Refusals.{refused}
use Rattle.rows.specs.Checks.{not_whole, count_refusal}
use Rattle.rows.specs.Layouts.{shape_refusal}
use Rattle.rows.proofs.Checks.{within_count}
use Rattle.table.proofs.check_shape.Goals as goal
use Rattle.table.proofs.check_shape.Goals.{After-row_count}

pub returns-then-is_empty : goal.returns-then-is_empty
unfolding shape_refusal not_whole count_refusal sheet_of triples
returns-then-is_empty c = let none-there = eqb-true _ _ (sym c.is_empty.ensures ∙ c.if-is_empty.true) in rw none-there

pub returns-then-words-ne0 : goal.returns-then-words-ne0
unfolding shape_refusal not_whole
returns-then-words-ne0 c = ap (λ (n : ℕ). refused n 0) (sym (pick_yes _ _ _ (ap not (ne_eqb _ 0 c.if-words-ne0.true))))

-- Behind the first two tests the list is whole rows, and there is one.
whole : (c : After-row_count) → not_whole c.args.words.now ≡ false
unfolding not_whole
whole c = ap not (eq-eqb _ 0 c.if-words-ne0.false)

some-row : (c : After-row_count) → (sheet_of c.args.words.now).rows ≡ 0 → ⊥
unfolding sheet_of triples
some-row c none-there = let some-word = eqb-false _ _ (sym c.is_empty.ensures ∙ c.if-is_empty.false) in some-word (omega (arith, c.if-words-ne0.false))

pub returns-then-row_count-gt64 : goal.returns-then-row_count-gt64
unfolding shape_refusal count_refusal
returns-then-row_count-gt64 c =
    ap (λ (n : ℕ). refused n 0)
    (sym
    (pick_no _ _ _ (whole (goal.at.returns-then-row_count-gt64 c).After-row_count)
    ∙ pick_no _ _ _ (ne_eqb _ 0 (some-row (goal.at.returns-then-row_count-gt64 c).After-row_count))
    ∙ pick_yes _ _ _ (lt-ltb 64 (sheet_of c.args.words.now).rows (omega arith))))

pub returns : goal.returns
unfolding shape_refusal
returns c =
    ap (λ (n : ℕ). refused n 0)
    (sym (pick_no _ _ _ (whole (goal.at.returns c).After-row_count) ∙ within_count (sheet_of c.args.words.now).rows (omega (arith, some-row (goal.at.returns c).After-row_count)) (omega arith)))
