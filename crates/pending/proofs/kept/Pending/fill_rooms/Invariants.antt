-- The loop of `fill_rooms`: what lasts from turn to turn.
use mathlib.Core.Path.{◌≡◌}
use mathlib.Core.List.{◌++◌}
use Prim.Native.Nat.{◌+◌, ◌*◌, ◌≤◌}
use lib.ListN.{drop}
use Rattle.laws.specs.Fill.{listed}
use Rattle.refinement.specs.Inner.Kept.{room_at, kept_sum}
use Rattle.pending.proofs.kept.Pending.fill_rooms.Given as goal

abbrev pub invariant-loop-place : goal.invariant-loop-place
invariant-loop-place l = record {
  filled : l.room ≡ listed (room_at l.self.others l.trial.x l.trial.cap) l.place ++ drop l.place l.initial.room;
  summed : l.term ≡ kept_sum l.self.others l.place l.initial.term l.trial.x l.trial.cap;
  within : l.term ≤ l.top;
  small : l.top ≤ l.initial.top + l.place * 1_000_000;
}
