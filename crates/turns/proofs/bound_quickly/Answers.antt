-- `bound_quickly` has a word of the space for each row.
use native.Mathlib.Omega.{arith}
use Rattle.model.proofs.Sheet.{few_rows}
use Rattle.turns.proofs.bound_quickly.Goals as goal

pub slice_bounds-taken-end : goal.slice_bounds-taken-end
slice_bounds-taken-end c = omega (arith, c.args.given.now.ready.one_each, few_rows _ c.args.given.now.ready.rows)
