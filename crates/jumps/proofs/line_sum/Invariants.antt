-- The loop of `line_sum`: what lasts from turn to turn.
use mathlib.Core.Path.{◌≡◌}
use Prim.Native.Nat.{◌*◌, ◌≤◌}
use Rattle.laws.specs.Sum.{total}
use Rattle.refinement.specs.Inner.Kept.{line_at}
use Rattle.jumps.proofs.line_sum.Given as goal

abbrev pub invariant-loop-other : goal.invariant-loop-other
invariant-loop-other l = record {
  adds : l.sum ≡ total (line_at l.pending.others l.trial.x l.trial.cap) l.other-index;
  small : l.sum ≤ l.other-index * 4_294_967_296_000_000;
}
