-- `line_sum` is the sum over the rows passed; each line is within the cap, so 64 of them fit.
use native.Mathlib.Omega.{arith}
use Prim.Native.Nat.{◌<◌}
use Rattle.std.proofs.Common.{get_or-take}
use Rattle.laws.specs.Sum.{total}
use Rattle.laws.proofs.Sum.{total_step}
use Rattle.refinement.specs.Inner.Kept.{line_at}
use Rattle.jumps.proofs.line_sum.Goals as goal

pub loop-other-init : goal.loop-other-init
unfolding total
loop-other-init c = record { adds = omega arith; small = omega arith }

pub loop-other-preserved : goal.loop-other-preserved
unfolding line_at
loop-other-preserved c =
    let pending = c.args.pending.now in
    let other = c.loop-other.other-index in
    let inside : other < pending.left = omega arith in
    let here = rw get_or-take at c.line-sum.ensures in
    record {
      adds = omega (arith, here, total_step (line_at pending.others c.args.trial.x c.args.trial.cap) other);
      small = omega (arith, here, c.requires);
    }
