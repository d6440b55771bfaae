-- `demand::busy::busy_part` meets its contract: the ceiling is one more than the floor before it, and the row's sizes keep it small.
use native.Mathlib.Omega.{arith}
use Rattle.verdict.proofs.Sound.{row_sizes, row_busy_worked, row_busy_small}
use Rattle.demand.proofs.busy.busy_part.Goals as goal

pub nonzero_div-result : goal.nonzero_div-result
nonzero_div-result c = let row = row_sizes _ c.args.checked.sizes _ c.requires.0 in omega (arith, c.period.ensures)

pub overflow_mul-result : goal.overflow_mul-result
overflow_mul-result c =
    rw (c.period.ensures, c.cost.ensures) (omega (arith, row_busy_worked _ c.args.checked.sizes _ c.requires.0 _ c.requires.1, row_busy_small _ c.args.checked.sizes _ c.requires.0 _ c.requires.2))

pub returns : goal.returns
returns c = rw (c.period.ensures, c.cost.ensures) (row_busy_worked _ c.args.checked.sizes _ c.requires.0 _ c.requires.1)
