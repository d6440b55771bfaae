-- `note_drops` notes drops that are at most bounds, which are at most a million.
use native.Mathlib.Omega.{arith}
use Rattle.model.proofs.Sheet.{few_rows, row_sized}
use Prim.Native.Nat.{◌<◌}
use Rattle.refinement.specs.Asked.{sheet}
use Rattle.ray.proofs.note_drops.Goals as goal

pub bounds-drops-at : goal.bounds-drops-at
bounds-drops-at c = omega (arith, few_rows _ c.args.given.now.asked.allowed)

pub put-requires : goal.put-requires
put-requires c =
    let q = c.loop-row in
    let given = c.args.given.now in
    let inside : q.row < (sheet given.asked).rows = omega arith in
    let range = given.ready.in_range q.row inside in
    let sized = row_sized _ given.asked.allowed q.row inside in
    (omega (arith, few_rows _ given.asked.allowed), omega arith)
