-- The loop of `look_at_group`: what lasts from turn to turn.
use mathlib.Core.Path.{◌≡◌}
use Prim.Native.Nat.{◌+◌, ◌*◌, ◌-◌, ◌≤◌}
use Rattle.laws.specs.Sum.{total}
use Rattle.model.specs.Demand.{demand_of}
use Rattle.columns.specs.Checked.{checked_sheet}
use Rattle.clear_lengths.proofs.look_at_group.Given as goal

abbrev pub invariant-loop-row : goal.invariant-loop-row
invariant-loop-row l = (l.demand ≤ (l.row - l.first) * 16_777_216)
    × (l.demand ≡ total (λ j. demand_of (checked_sheet l.checked) l.length (l.first + j)) (l.row - l.first))
