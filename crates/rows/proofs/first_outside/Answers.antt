-- `first_outside` meets its contract: no row passed is outside, and the one that stops it is.
use mathlib.Core.Path.{sym, ◌∙◌, ap}
use mathlib.Core.Bool.{not}
use mathlib.Core.Option.{none, some}
use native.Mathlib.Omega.{arith}
use borrow.Author.Count.{below_more}
use Rattle.laws.proofs.Search.{least-fixed}
use Rattle.model.specs.Sheet.{triples}
use Rattle.rows.specs.Words.{outside, found_of, first_outside}
use Rattle.rows.proofs.Words.{counted_anyhow}
use Rattle.rows.proofs.first_outside.Goals as goal

pub returns-then-not-row_allowed_at : goal.returns-then-not-row_allowed_at
unfolding found_of first_outside triples
returns-then-not-row_allowed_at c =
    let p = c.args in
    sym
    (ap found_of
    (least-fixed (outside (triples p.count p.words.now)) 0 p.count (some c.loop-row.row)
    record {
      passes = counted_anyhow p.count p.words.now c.loop-row.row ∙ ap not (sym c.row_allowed_at.ensures) ∙ (ap not c.if-not-row_allowed_at.true);
      from = omega arith;
      inside = omega arith;
      lowest = λ k from below. c.loop-row.invariant k below;
    }))

pub loop-row-preserved : goal.loop-row-preserved
loop-row-preserved c =
    below_more _ _ c.loop-row.invariant
    (counted_anyhow _ _ _ ∙ ap not (sym c.row_allowed_at.ensures) ∙ (ap not c.if-not-row_allowed_at.false))

pub returns : goal.returns
unfolding found_of first_outside triples
returns c =
    let p = c.args in
    sym
    (ap found_of
    (least-fixed (outside (triples p.count p.words.now)) 0 p.count none
    (λ k from below. c.loop-row.invariant k (omega arith))))
