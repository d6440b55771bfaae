-- The loop of `split_rooms`: what lasts from turn to turn.
use mathlib.Core.Path.{◌≡◌}
use Prim.Native.Nat.{◌*◌, ◌≤◌, min}
use lib.ListN.{get_or}
use Rattle.laws.specs.Sum.{total}
use Rattle.jumps.proofs.split_rooms.Given as goal

abbrev pub invariant-loop-here : goal.invariant-loop-here
invariant-loop-here l = record {
  adds : l.sum ≡ total (λ i. min l.far (get_or l.room i 0)) l.here-index;
  small : l.sum ≤ l.here-index * 1_000_000;
  few : l.wide ≤ l.here-index;
  within : l.wide * l.far ≤ l.sum;
}
