-- `Notes::noted_demand` meets its contract: the groups passed are summed up, and after the last one all rows are.
use mathlib.Core.Path.{refl, ◌∙◌}
use Prim.Native.Nat.{◌*◌, ◌<◌}
use native.Mathlib.Omega.{arith}
use Rattle.columns.specs.Checked.{checked_sheet}
use Rattle.model.proofs.Sheet.{few_rows}
use Rattle.verdict.proofs.Backward.{summed_none, summed_more, summed_all}
use Rattle.clear_lengths.proofs.notes.Notes.noted_demand.Goals as goal
use Rattle.clear_lengths.proofs.notes.Notes.noted_demand.Goals.{In-loop-group}

pub loop-group-init : goal.loop-group-init
loop-group-init c = (summed_none _ _, refl, refl)

-- A group that the loop looks at has a row.
some : (c : In-loop-group) → 4 * c.loop-group.group < (checked_sheet c.args.self.now.checked).rows
some c = omega (arith, c.count.ensures, c.div_ceil-group-end.ensures, c.loop-group-test.true)

pub group_demand-sum-requires : goal.group_demand-sum-requires
group_demand-sum-requires c =
    omega (arith, some (goal.at.group_demand-sum-requires c).In-loop-group, few_rows _ c.args.self.now.checked.sizes)

pub loop-group-preserved : goal.loop-group-preserved
loop-group-preserved c =
    let q = c.loop-group in
    let known = c.group_demand-sum.ensures in
    let rows = known.kept.0 ∙ q.invariant.1 in
    let length = known.kept.1 ∙ q.invariant.2 in (
      rw (rows, length)
          (summed_more _ _ q.group q.sum _ (few_rows _ c.args.self.now.checked.sizes) (some (goal.at.loop-group-preserved c).In-loop-group)
          (rw (q.invariant.1, q.invariant.2) at q.invariant.0)
          (rw (q.invariant.1, q.invariant.2) at known.lower_bound.0) known.lower_bound.1),
      rows,
      length,
    )

pub returns-clause-lower_bound : goal.returns-clause-lower_bound
returns-clause-lower_bound c =
    let q = c.loop-group in
    summed_all _ _ q.group _ (omega (arith, c.count.ensures, c.div_ceil-group-end.ensures, c.loop-group-test.false))
    (rw (q.invariant.1, q.invariant.2) at q.invariant.0)
