-- `row_reach` holds the row's sum under a line, and the line under what the row has left.
use native.Mathlib.Omega.{arith}
use Prim.Native.Nat.{ℕ, ◌+◌, ◌*◌, ◌-◌, ◌≤◌}
use mathlib.Core.Path.{refl, sym, ap}
use lib.ListN.{get_or}
use Rattle.model.proofs.Sheet.{row_sized, few_rows}
use Rattle.refinement.proofs.Limits.{product_small}
use Rattle.refinement.proofs.Ways.{reaches}
use Rattle.ray.proofs.row_reach.Goals as goal
use Rattle.ray.proofs.row_reach.Goals.{After-cost}

-- What the row has left at its first step is small, for one processor and for all.
left_small : (c : After-cost) → let left = c.bound.result - get_or c.args.drops.now.each c.args.row 0 - c.cost.result + 1 in
    (left ≤ 1_000_000) × (c.args.given.now.asked.processors * left ≤ 64_000_000)
left_small c =
    let ready = c.requires.ready in
    let sized = row_sized _ ready.rows c.args.row c.requires.inside in
    let range = ready.in_range c.args.row c.requires.inside in
    (omega arith, product_small _ _ c.args.given.now.asked.few_processors (omega arith))

pub bounds-drops-row : goal.bounds-drops-row
bounds-drops-row c = omega (arith, few_rows _ c.requires.ready.rows, c.requires.inside)

pub overflow_add-left : goal.overflow_add-left
overflow_add-left c = omega (arith, (left_small (goal.at.overflow_add-left c).After-cost).0)

pub overflow_mul-asked-2 : goal.overflow_mul-asked-2
overflow_mul-asked-2 c = omega (arith, (left_small (goal.at.overflow_mul-asked-2 c).After-cost).1)

pub steps_below-requires : goal.steps_below-requires
steps_below-requires c = (c.sum-line.ensures.small, (left_small (goal.at.steps_below-requires c).After-cost).1)

pub returns : goal.returns
returns c =
    reaches _ _ _ _ _ c.requires _ _ _ _ _ _ _ _ _ _ c.args.given.now.asked.some_processor
    (record { by_deadline = c.deadline.ensures; by_drop = refl; by_bound = ap (λ (bound : ℕ). bound - get_or c.args.drops.now.each c.args.row 0) c.bound.ensures })
    (sym c.cost.ensures) c.sum-line.ensures c.steps_below.ensures
