-- `onward` stays where the terms do not fill the processors' time; where they do, the jump passes no solution.
use native.Mathlib.Omega.{arith}
use mathlib.Core.Path.{◌≡◌, refl}
use Prim.Native.Nat.{◌+◌, ◌-◌}
use lib.ListN.{take}
use lib.Seq.{take_at}
use Rattle.laws.specs.Fill.{listed}
use Rattle.laws.proofs.Fill.{listed-length}
use Rattle.refinement.specs.Inner.Kept.{room_at}
use Rattle.refinement.proofs.Exclusion.{rooms_filled, jump_passes}
use Rattle.jumps.proofs.onward.Goals as goal
use Rattle.jumps.proofs.onward.Goals.{After-fill_rooms-here}

-- The front of the room is what was filled in.
front : (c : After-fill_rooms-here) → let pending = c.args.pending.now in
    take pending.left c.fill_rooms-here.new.room ≡ listed (room_at pending.others c.args.x (c.args.x - c.args.sought.own + 1)) pending.left
front c =
    let pending = c.args.pending.now in
    let rooms = listed (room_at pending.others c.args.x (c.args.x - c.args.sought.own + 1)) pending.left in
    rw (c.fill_rooms-here.ensures.filled, c.at-trial.ensures.0, c.at-trial.ensures.1) (take_at rooms _ pending.left (listed-length _ pending.left))

pub jump-requires : goal.jump-requires
jump-requires c =
    let filled = c.fill_rooms-here.ensures in (
      rooms_filled _ _ c.args.pending.now.kept.rows _ c.args.x _ (front (goal.at.jump-requires c).After-fill_rooms-here),
      omega (arith, filled.small.1),
      omega arith,
      omega arith,
      omega arith,
    )

pub returns-clause-goes : goal.returns-clause-goes
returns-clause-goes c =
    let sought = c.args.sought in
    let pending = c.args.pending.now in
    let trial = c.at-trial.ensures in
    let filled = rw (trial.0, trial.1) at c.fill_rooms-here.ensures in
    let enough = rw trial.1 at c.if-here-supply.false in (
      omega arith,
      jump_passes _ _ pending.kept.rows _ pending.settled sought.processors sought.own c.args.x _ _ c.jump.result c.requires.0 (front (goal.at.returns-clause-goes c).After-fill_rooms-here)
          (rw (← filled.summed) enough) (rw (← filled.summed, trial.1) refl) c.jump.ensures,
    )
