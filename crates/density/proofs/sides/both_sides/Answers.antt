-- `density::sides::both_sides` meets its contract. The loop's invariant: both sides hold the densities of the rows passed.
use mathlib.Core.Path.{◌≡◌, ◌∙◌, ap, ap₂}
use Prim.Native.Nat.{◌/◌, ◌≤◌, ◌<◌}
use native.Mathlib.Omega.{arith}
use Rattle.model.specs.Demand.{ceiling}
use Rattle.model.specs.Density.{rounded}
use Rattle.model.proofs.Rounding.{floor_rounds, ceiling-rounds}
use Rattle.columns.specs.Checked.{checked_sheet}
use Rattle.quick_look.specs.declared.Side.{Side}
use Rattle.quick_look.specs.declared.Sides.{Sides}
use Rattle.quick_look.specs.Inner.{side_of, sides_of}
use Rattle.quick_look.proofs.Summed.{side_none, side_more, row_whole, row_small, side_small}
use Rattle.density.proofs.sides.both_sides.Goals as goal
use Rattle.density.proofs.sides.both_sides.Goals.{In-loop-row, After-deadline-deadline, After-rounded_down-low, After-rounded_up}

-- A row summed up is the sheet's, and so are those before it.
here : (c : In-loop-row) → c.loop-row.row < (checked_sheet c.args.checked).rows
here c = rw c.count-row-end.ensures at c.loop-row-test.true

passed : (c : In-loop-row) → c.loop-row.row ≤ (checked_sheet c.args.checked).rows
passed c = omega (arith, here (goal.at.In-loop-row c).In-loop-row)

-- Its deadline is at least 1.
whole : (c : After-deadline-deadline) → 1 ≤ c.deadline-deadline.result
whole c = rw c.deadline-deadline.ensures (row_whole _ c.args.checked.sizes _ (here (goal.at.After-deadline-deadline c).In-loop-row))

-- Its density, rounded down and rounded up.
low : (c : After-rounded_down-low) → c.rounded_down-low.result ≡ rounded ◌/◌ (checked_sheet c.args.checked) c.loop-row.row
unfolding rounded
low c = rw (← c.cost-cost.ensures, ← c.deadline-deadline.ensures) c.rounded_down-low.ensures

high : (c : After-rounded_up) → c.rounded_up.result ≡ rounded ceiling (checked_sheet c.args.checked) c.loop-row.row
unfolding rounded
high c = rw (← c.cost-cost.ensures, ← c.deadline-deadline.ensures) c.rounded_up.ensures

pub loop-row-init : goal.loop-row-init
loop-row-init c = (side_none _, side_none _)

pub rounded_down-low-requires : goal.rounded_down-low-requires
rounded_down-low-requires c = whole (goal.at.rounded_down-low-requires c).After-deadline-deadline

pub with_density-down-requires : goal.with_density-down-requires
with_density-down-requires c = (
  side_small _ c.args.checked.sizes ◌/◌ floor_rounds _ (passed (goal.at.with_density-down-requires c).In-loop-row) c.loop-row.invariant.0,
  row_small _ c.args.checked.sizes ◌/◌ floor_rounds _ (here (goal.at.with_density-down-requires c).In-loop-row) (low (goal.at.with_density-down-requires c).After-rounded_down-low),
)

pub rounded_up-requires : goal.rounded_up-requires
rounded_up-requires c = (whole (goal.at.rounded_up-requires c).After-deadline-deadline, c.rounded_down-low.ensures)

pub with_density-up-requires : goal.with_density-up-requires
with_density-up-requires c = (
  side_small _ c.args.checked.sizes ceiling ceiling-rounds _ (passed (goal.at.with_density-up-requires c).In-loop-row) c.loop-row.invariant.1,
  row_small _ c.args.checked.sizes ceiling ceiling-rounds _ (here (goal.at.with_density-up-requires c).In-loop-row) (high (goal.at.with_density-up-requires c).After-rounded_up),
)

pub loop-row-preserved : goal.loop-row-preserved
loop-row-preserved c =
    let inv = c.loop-row.invariant in (
      c.with_density-down.ensures ∙ side_more _ _ inv.0 (low (goal.at.loop-row-preserved c).After-rounded_down-low),
      c.with_density-up.ensures ∙ side_more _ _ inv.1 (high (goal.at.loop-row-preserved c).After-rounded_up),
    )

pub returns : goal.returns
unfolding sides_of
returns c =
    let q = c.loop-row in
    let ended : q.row ≡ c.count-row-end.result = omega arith in
    let all = ended ∙ c.count-row-end.ensures in
    ap₂ both (q.invariant.0 ∙ ap (side_of _) all) (q.invariant.1 ∙ ap (side_of _) all)
  where
    both : Side → Side → Sides
    both down up = record { down = down; up = up }
