-- `sum` adds line by line, and lasts as long as the shortest.
use native.Mathlib.Omega.{arith}
use native.Mathlib.Nat.{min_comm}
use mathlib.Core.Path.{◌≡◌}
use Rattle.model.proofs.Sheet.{few_rows}
use Rattle.columns.specs.Rows.{sheet_in}
use Rattle.refinement.proofs.Lines.{summed_none, summed_more}
use Rattle.refinement.proofs.Ways.{summed_all}
use Rattle.slopes.proofs.capped.Capped.sum.Goals as goal

pub loop-other-init : goal.loop-other-init
loop-other-init c = summed_none _ _

pub overflow_add-sum : goal.overflow_add-sum
overflow_add-sum c = omega (arith, few_rows _ c.args.self.now.way.now.on_way.ready.rows)

pub overflow_add-sum-in-loop-other : goal.overflow_add-sum-in-loop-other
overflow_add-sum-in-loop-other c = omega (arith, few_rows _ c.args.self.now.way.now.on_way.ready.rows, c.other-line.ensures.lies.gentle)

pub loop-other-preserved : goal.loop-other-preserved
loop-other-preserved c =
    rw (c.min.ensures, min_comm) (summed_more _ _ _ _ _ _ _ _ _ c.loop-other.invariant c.other-line.ensures)

pub returns : goal.returns
returns c =
    let all : c.loop-other.other ≡ (sheet_in c.args.self.now.way.now.ray.rows).rows = omega arith in
    summed_all _ _ _ _ _ _ _ _ _ _ all (omega (arith, few_rows _ c.args.self.now.way.now.on_way.ready.rows)) c.loop-other.invariant
