-- `clear_lengths::look_at_group` meets its contract. The loop's invariant: the demand is that of the rows passed, each at most 16,777,216.
use mathlib.Core.Path.{◌≡◌, refl}
use Prim.Native.Nat.{◌+◌, ◌-◌, ◌≤◌}
use native.Mathlib.Nat.{le_trans}
use native.Mathlib.Omega.{arith}
use Rattle.laws.specs.Sum.{total}
use Rattle.laws.proofs.Sum.{total_step}
use Rattle.model.proofs.Sheet.{few_rows}
use Rattle.verdict.proofs.Looked.{look_demand}
use Rattle.verdict.proofs.Sound.{row_demand_fits}
use Rattle.clear_lengths.proofs.look_at_group.Goals as goal
use Rattle.clear_lengths.proofs.look_at_group.Goals.{In-loop-row, After-look_at-look}

-- A row looked at is its place in the group behind the first.
placed : (c : In-loop-row) → c.args.first + (c.loop-row.row - c.args.first) ≡ c.loop-row.row
placed c = omega arith

-- What a turn adds is the row's demand, which is small.
small : (c : After-look_at-look) → c.look_at-look.result.demand ≤ 16_777_216
small c =
    rw (look_demand _ _ _ c.look_at-look.ensures)
    (le_trans (row_demand_fits _ c.args.checked.sizes c.loop-row.row (omega (arith, c.requires.0)) c.args.length) c.requires.1)

pub overflow_add-row-end : goal.overflow_add-row-end
overflow_add-row-end c = omega (arith, c.requires.0, few_rows _ c.args.checked.sizes)

pub loop-row-init : goal.loop-row-init
unfolding total
loop-row-init c =
    let none : c.args.first - c.args.first ≡ 0 = omega arith in
    rw none (omega arith, refl)

pub overflow_add-demand : goal.overflow_add-demand
overflow_add-demand c =
    omega (arith, c.requires.0, few_rows _ c.args.checked.sizes, small (goal.at.overflow_add-demand c).After-look_at-look)

pub loop-row-preserved : goal.loop-row-preserved
loop-row-preserved c =
    let one_more : c.loop-row.row + 1 - c.args.first ≡ c.loop-row.row - c.args.first + 1 = omega arith in (
      omega (arith, small (goal.at.loop-row-preserved c).After-look_at-look),
      rw (
        one_more,
        total_step,
        ← c.loop-row.invariant.1,
        placed (goal.at.loop-row-preserved c).In-loop-row,
        look_demand _ _ _ c.look_at-look.ensures,
      ),
    )
