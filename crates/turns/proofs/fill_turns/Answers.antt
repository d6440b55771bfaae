-- `fill_turns` stores each row's turn behind those before it and gathers the marks, all from the bounds at its start.
use mathlib.Core.Path.{◌≡◌, refl, ◌∙◌, ap}
use native.Mathlib.Omega.{arith}
use Rattle.laws.specs.Sum.{total}
use Rattle.laws.specs.Fill.{listed}
use Rattle.laws.specs.Bits.{bits}
use Rattle.laws.proofs.Fill.{listed-none, listed_more, listed_all}
use Rattle.laws.proofs.Bits.{bits_below, bits_next}
use Rattle.model.specs.Refine.{round, marks}
use Rattle.model.proofs.Sheet.{few_rows}
use Rattle.refinement.specs.Asked.{sheet}
use Rattle.refinement.proofs.Steps.{turn_found, mark_found}
use Rattle.turns.proofs.fill_turns.Goals as goal

pub loop-row-init : goal.loop-row-init
unfolding bits total
loop-row-init c = (refl, listed-none _ _)

pub with_mark-seen-requires : goal.with_mark-seen-requires
with_mark-seen-requires c =
    let q = c.loop-row in
    (omega (arith, few_rows _ c.args.given.now.ready.rows, c.count-row-end.ensures), rw q.invariant.0 (bits_below _ q.row))

pub loop-row-preserved : goal.loop-row-preserved
loop-row-preserved c =
    let q = c.loop-row in
    let found = c.answer_row-found.ensures in (
      c.with_mark-seen.ensures ∙ bits_next _ q.row q.seen _ q.invariant.0 (mark_found _ _ _ _ found),
      listed_more _ q.row c.args.next.now q.next c.unwrap_or.result (omega (arith, c.requires, c.count-row-end.ensures)) q.invariant.1
          (turn_found _ _ _ _ _ _ _ found c.deadline.ensures c.unwrap_or.ensures),
    )

pub returns : goal.returns
unfolding marks round
returns c =
    let q = c.loop-row in
    let all : q.row ≡ (sheet c.args.given.now.asked).rows = omega (arith, c.count-row-end.ensures) in
    record {
      seen = q.invariant.0 ∙ ap (bits _) all;
      turned = listed_all _ q.row c.args.next.now q.next (omega (arith, c.requires)) q.invariant.1 ∙ ap (listed _) all;
    }
