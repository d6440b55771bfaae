-- The loop of `both_sides`: what lasts from turn to turn.
use mathlib.Core.Path.{◌≡◌}
use Rattle.model.specs.Density.{rounded_up, rounded_down}
use Rattle.columns.specs.Checked.{checked_sheet}
use Rattle.quick_look.specs.Inner.{side_of}
use Rattle.density.proofs.sides.both_sides.Given as goal

abbrev pub invariant-loop-row : goal.invariant-loop-row
invariant-loop-row l = (l.down ≡ side_of (rounded_down (checked_sheet l.checked)) l.row)
    × (l.up ≡ side_of (rounded_up (checked_sheet l.checked)) l.row)
