-- `meet_others` takes in what stands before the row and what stands behind it: together all rows but one.
use native.Mathlib.Omega.{arith}
use Rattle.refinement.specs.Asked.{sheet}
use Rattle.model.proofs.Sheet.{row_sized, few_rows}
use Rattle.laws.specs.Sum.{total}
use Rattle.refinement.proofs.Kept.{met_all}
use Rattle.pending.proofs.kept.Pending.meet_others.Goals as goal

pub meet-requires : goal.meet-requires
meet-requires c =
    let sized = row_sized _ c.args.given.now.ready.rows c.args.row c.requires in
    (omega arith, omega (arith, c.requires), omega arith, omega arith)

pub overflow_add-row : goal.overflow_add-row
overflow_add-row c = omega (arith, c.requires, few_rows _ c.args.given.now.ready.rows)

pub meet-requires-2 : goal.meet-requires-2
meet-requires-2 c =
    let sized = row_sized _ c.args.given.now.ready.rows c.args.row c.requires in
    (omega (arith, c.requires), omega arith, omega arith, omega (arith, c.meet.ensures.small))

pub returns : goal.returns
unfolding total
returns c =
    let s = sheet c.args.given.now.asked in
    let sized = row_sized _ c.args.given.now.ready.rows c.args.row c.requires in
    let first = c.meet.ensures in
    let second = c.meet-2.ensures in
    record {
      kept = c.meet-2.new.self.kept;
      fewer = omega (arith, second.small);
      same = λ z from.
          met_all s c.args.given.now.bounds.now c.args.row c.deadline-window.result c.count.result z _ _ (omega (arith, c.requires)) c.count.ensures c.deadline-window.ensures
          (first.sums z _ (omega (arith, sized.positive)) (omega arith)) (second.sums z _ (omega (arith, sized.positive)) (omega arith));
    }
