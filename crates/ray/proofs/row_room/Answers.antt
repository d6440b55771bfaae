-- `row_room` divides: a row that there is has a drop.
use native.Mathlib.Omega.{arith}
use Rattle.model.proofs.Sheet.{few_rows}
use Rattle.ray.proofs.row_room.Goals as goal

pub bounds-drops-row : goal.bounds-drops-row
bounds-drops-row c = omega (arith, few_rows _ c.args.given.now.asked.allowed, c.requires)
