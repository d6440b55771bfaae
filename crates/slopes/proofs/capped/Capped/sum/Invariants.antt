-- The loop of `sum`: the sum lies over what the rows so far add.
use Rattle.columns.specs.Rows.{sheet_in}
use Rattle.refinement.specs.Inner.Ray.{added_along}
use Rattle.refinement.proofs.Lines.{Summed}
use Rattle.slopes.specs.Ray.{by}
use Rattle.slopes.proofs.capped.Capped.sum.Given as goal

abbrev pub invariant-loop-other : goal.invariant-loop-other
invariant-loop-other l =
    let way = l.self.way.now in
    Summed (added_along (by way) (sheet_in way.ray.rows) way.ray.bounds.now way.ray.drops.now.each way.row) way.most l.other l.sum.value l.sum.slope l.sum.limit
