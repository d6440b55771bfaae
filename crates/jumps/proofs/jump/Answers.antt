-- `jump` stays within the most; where the check fails the next length is smaller, and where it holds it is the contract.
use Prim.Native.Nat.{◌+◌, ◌-◌, ◌/◌, ◌<◌}
use native.Mathlib.Omega.{arith}
use Rattle.laws.proofs.Concave.{newton_falls}
use Rattle.jumps.proofs.jump.Goals as goal
use Rattle.jumps.proofs.jump.Goals.{Else-processors-far}

-- What comes next is less far.
falls : (c : Else-processors-far) → let split = c.split_rooms-split.result in
    (split.wide < c.args.processors) × ((c.args.gain + split.full) / (c.args.processors - split.wide) < c.loop-far.far)
falls c =
    let split = c.split_rooms-split.result in
    newton_falls (c.args.gain + split.full) split.wide c.loop-far.far c.args.processors (omega (arith, c.if-processors-far.false))

pub loop-far-smaller : goal.loop-far-smaller
loop-far-smaller c = (falls (goal.at.loop-far-smaller c).Else-processors-far).1

pub loop-far-preserved : goal.loop-far-preserved
loop-far-preserved c = omega (arith, (falls (goal.at.loop-far-preserved c).Else-processors-far).1, c.loop-far.invariant)
