-- The loop of `keep_pending`: what lasts from turn to turn.
use mathlib.Core.Path.{◌≡◌}
use Prim.Native.Nat.{ℕ, ◌+◌, ◌-◌, ◌≤◌}
use Rattle.laws.specs.Sum.{total}
use Rattle.refinement.specs.Inner.Kept.{row_at, term_at, KeptOf, kept_sum}
use Rattle.pending.proofs.kept.Pending.keep_pending.Given as goal

abbrev pub invariant-loop-place : goal.invariant-loop-place
invariant-loop-place l = record {
  fewer : l.left ≤ l.place;
  kept : KeptOf (64 - (l.place-end - l.place)) l.self.others l.left l.settled;
  still : (l.self.left ≡ l.initial.self.left) × (l.self.settled ≡ l.initial.self.settled);
  stands : (j : ℕ) → l.place ≤ j → row_at l.self.others j ≡ row_at l.initial.self.others j;
  sums : (d : ℕ) → kept_sum l.self.others l.left l.settled (l.trial.x + d) (l.trial.cap + d)
      ≡ l.initial.self.settled + total (term_at l.initial.self.others (l.trial.x + d) (l.trial.cap + d)) l.place;
}
