-- `split_rooms` adds what each room lets through, and counts the rooms that let all through, which is no more than was added.
use native.Mathlib.Omega.{arith}
use native.Mathlib.Nat.{zero-mul, add-mul}
use Prim.Native.Nat.{◌≤◌, min}
use lib.ListN.{get_or}
use Rattle.laws.specs.Sum.{total}
use Rattle.laws.proofs.Sum.{total_step}
use Rattle.jumps.proofs.split_rooms.Goals as goal

pub loop-here-init : goal.loop-here-init
unfolding total
loop-here-init c = record { adds = omega arith; small = omega arith; few = omega arith; within = omega (arith, zero-mul c.args.far) }

pub loop-here-preserved : goal.loop-here-preserved
loop-here-preserved c =
    let q = c.loop-here in
    let all = c.lets_all-wide.ensures in
    let small : get_or c.args.room.now q.here-index 0 ≤ 1_000_000 = c.requires.small q.here-index (omega arith) in record {
      adds = omega (arith, total_step (λ i. min c.args.far (get_or c.args.room.now i 0)) q.here-index);
      small = omega arith;
      few = omega (arith, all.0);
      within = omega (arith, all.1, add-mul q.wide c.lets_all-wide.result c.args.far);
    }
