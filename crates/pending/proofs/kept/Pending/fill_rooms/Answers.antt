-- `fill_rooms` adds up and lists row by row; every term is within what it comes to, and that within the share.
use native.Mathlib.Omega.{arith}
use mathlib.Core.Path.{ap₂}
use Prim.Native.Nat.{◌-◌, ◌≤◌, ◌<◌}
use Rattle.laws.specs.Sum.{total}
use Rattle.laws.proofs.Sum.{total_step}
use Rattle.laws.proofs.Fill.{listed-none, listed_more}
use Rattle.refinement.specs.Inner.Kept.{term_at, top_at, room_at}
use Rattle.refinement.proofs.Exclusion.{term_within, top_small}
use Rattle.pending.proofs.kept.Pending.fill_rooms.Goals as goal
use Rattle.pending.proofs.kept.Pending.fill_rooms.Goals.{After-term_and_top-here}

pub loop-place-init : goal.loop-place-init
unfolding total
loop-place-init c = record { filled = listed-none _ _; summed = omega arith; within = omega arith; small = omega arith }

-- What a turn of the loop adds.
tops : (c : After-term_and_top-here) → (c.term_and_top-here.result.term ≤ c.term_and_top-here.result.top) × (c.term_and_top-here.result.top ≤ 1_000_000)
unfolding term_at top_at
tops c =
    let place = c.loop-place.place in
    let self = c.args.self.now in
    let here = c.term_and_top-here.ensures in
    let inside : place < self.left = omega arith in
    rw (here.adds, here.comes)
    (term_within _ _ self.kept.rows place c.args.trial.x c.args.trial.cap inside, top_small _ _ self.kept.rows place c.args.trial.x inside)

pub overflow_sub-room : goal.overflow_sub-room
overflow_sub-room c = (tops (goal.at.overflow_sub-room c).After-term_and_top-here).0

pub loop-place-preserved : goal.loop-place-preserved
unfolding term_at top_at room_at
loop-place-preserved c =
    let q = c.loop-place in
    let l = c.args.self.now.others in
    let x = c.args.trial.x in
    let cap = c.args.trial.cap in
    let here = c.term_and_top-here in
    let within = tops (goal.at.loop-place-preserved c).After-term_and_top-here in record {
      filled = listed_more (room_at l x cap) q.place c.args.room.now q.room _ (omega arith) q.invariant.filled (ap₂ ◌-◌ here.ensures.comes here.ensures.adds);
      summed = omega (arith, here.ensures.adds, total_step (term_at l x cap) q.place, q.invariant.summed);
      within = omega (arith, within.0);
      small = omega (arith, within.1);
    }
