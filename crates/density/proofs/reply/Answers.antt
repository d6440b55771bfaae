-- `density::reply` meets its contract: each of its three returns has the meaning, in billionths, that fixes the answer.
use mathlib.Core.Path.{◌≡◌, sym, ap}
use Prim.Native.Nat.{◌/◌}
use native.Mathlib.Nat.{le_trans, le_of_eq, lt_of_lt_of_le}
use Rattle.model.specs.Demand.{ceiling}
use Rattle.model.specs.Density.{left_side, billion, rounded_up, rounded_down, holds, fails, unsure}
use Rattle.model.proofs.Rounding.{floor_rounds, ceiling-rounds}
use Rattle.model.proofs.Density.{density-fixed}
use Rattle.columns.specs.Checked.{checked_sheet}
use Rattle.quick_look.specs.declared.Sides.{Sides}
use Rattle.quick_look.specs.DensityTest.{reply_of}
use Rattle.quick_look.specs.Inner.{side_of, sides_of}
use Rattle.quick_look.proofs.Summed.{left_side_of, whole_small}
use Rattle.density.proofs.reply.Goals as goal
use Rattle.density.proofs.reply.Goals.{After-both_sides-both, After-left_side, After-left_side-2}

-- What was summed up: the sheet's densities, rounded up and rounded down.
ups : (c : After-both_sides-both) → let s = checked_sheet c.args.checked in c.both_sides-both.result.up ≡ side_of (rounded_up s) s.rows
unfolding sides_of
ups c = ap (λ (r : Sides). r.up) c.both_sides-both.ensures

downs : (c : After-both_sides-both) → let s = checked_sheet c.args.checked in c.both_sides-both.result.down ≡ side_of (rounded_down s) s.rows
unfolding sides_of
downs c = ap (λ (r : Sides). r.down) c.both_sides-both.ensures

-- Their left sides.
up_left : (c : After-left_side)
    → let s = checked_sheet c.args.checked in c.left_side.result ≡ left_side c.args.processors (rounded_up s) s.rows
up_left c = left_side_of _ _ _ (ups (goal.at.After-left_side c).After-both_sides-both) c.left_side.ensures

down-left : (c : After-left_side-2)
    → let s = checked_sheet c.args.checked in c.left_side-2.result ≡ left_side c.args.processors (rounded_down s) s.rows
down-left c = left_side_of _ _ _ (downs (goal.at.After-left_side-2 c).After-both_sides-both) c.left_side-2.ensures

pub left_side-requires : goal.left_side-requires
left_side-requires c =
    (whole_small _ c.args.checked.sizes ceiling ceiling-rounds (ups (goal.at.left_side-requires c).After-both_sides-both), c.requires.0, c.requires.1)

pub returns-then-left_side-limit : goal.returns-then-left_side-limit
unfolding reply_of billion
returns-then-left_side-limit c = ap reply_of (density-fixed _ _ holds (le_trans (le_of_eq (sym (up_left (goal.at.returns-then-left_side-limit c).After-left_side))) (rw c.from-limit.ensures at c.if-left_side-limit.true)))

pub left_side-requires-2 : goal.left_side-requires-2
left_side-requires-2 c =
    (whole_small _ c.args.checked.sizes ◌/◌ floor_rounds (downs (goal.at.left_side-requires-2 c).After-both_sides-both), c.requires.0, c.requires.1)

pub returns-then-limit-left_side : goal.returns-then-limit-left_side
unfolding reply_of billion
returns-then-limit-left_side c = ap reply_of (density-fixed _ _ fails (lt_of_lt_of_le (rw c.from-limit.ensures at c.if-limit-left_side.true) (le_of_eq (down-left (goal.at.returns-then-limit-left_side c).After-left_side-2))))

pub returns : goal.returns
unfolding reply_of billion
returns c =
    ap reply_of
    (density-fixed _ _ unsure
    (record {
      not_met = lt_of_lt_of_le (rw c.from-limit.ensures at c.if-left_side-limit.false) (le_of_eq (up_left (goal.at.returns c).After-left_side));
      not_broken = le_trans (le_of_eq (sym (down-left (goal.at.returns c).After-left_side-2))) (rw c.from-limit.ensures at c.if-limit-left_side.false);
    }))
