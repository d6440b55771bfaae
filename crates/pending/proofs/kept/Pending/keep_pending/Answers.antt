-- `keep_pending` passes row by row: one that adds its whole share is settled for good, any other moves to the front.
use native.Mathlib.Omega.{arith}
use mathlib.Core.Path.{◌≡◌, ◌∙◌, ap}
use Prim.Native.Nat.{◌+◌, ◌-◌, ◌<◌}
use lib.Seq.{get_or-set_other}
use Rattle.laws.proofs.Sum.{total_step}
use Rattle.refinement.specs.declared.other.Other.{Other}
use Rattle.refinement.specs.Inner.Kept.{no_row, row_at, term_from, term_at, KeptRow}
use Rattle.refinement.proofs.Kept.{kept_more, kept_settled, sum_more, sum_settled, whole_share}
use Rattle.pending.proofs.kept.Pending.keep_pending.Goals as goal
use Rattle.pending.proofs.kept.Pending.keep_pending.Goals.{In-loop-place}

-- The row that is passed is one of those kept.
kept : (c : In-loop-place) → KeptRow c.loop-place.self.others c.loop-place.place
kept c = c.loop-place.self.kept.rows.each c.loop-place.place (omega (arith, c.loop-place.invariant.still.0))

pub loop-place-preserved : goal.loop-place-preserved
unfolding term_at
loop-place-preserved c =
    let q = c.loop-place in
    let l = q.self.others in
    let before = c.args.self.now in
    let o = row_at l q.place in
    let rows = q.invariant.kept.rows in
    let row = kept (goal.at.loop-place-preserved c).In-loop-place in
    let behind : q.left < 64 = omega (arith, before.kept.rows.few) in
    let one_more : 64 - (before.left - (q.place + 1)) ≡ 64 - (before.left - q.place) + 1 = omega (arith, before.kept.rows.few) in record {
      fewer = grind arith;
      kept = rw one_more
          (grind (
            arith,
            kept_more l q.left o rows behind _ q.settled q.invariant.kept row,
            kept_settled l q.left o rows behind _ q.settled q.invariant.kept row.small_share,
          ));
      still = q.invariant.still;
      stands = λ j from. get_or-set_other l q.left j o no_row (λ here. omega arith) ∙ q.invariant.stands j (omega arith);
      sums = λ d.
          let x = c.args.trial.x + d in
          let cap = c.args.trial.cap + d in
          grind (
            arith,
            q.invariant.sums d,
            total_step (term_at before.others x cap) q.place,
            ap (λ (r : Other). term_from r x cap) (q.invariant.stands q.place (omega arith)),
            c.term_and_top-here.ensures.adds,
            sum_more l q.left o rows behind q.settled x cap,
            sum_settled l q.left o rows behind q.settled x cap,
            whole_share o c.args.trial.x c.args.trial.cap d (omega (arith, row.sizes.some_cost, row.sizes.by_period)),
          );
    }
