-- `rta_quickly` climbs over stretches without a solution: it stands where a climb stands, and each exit is a law of the climb. What is left to
-- the deadline falls.
use native.Mathlib.Omega.{arith}
use mathlib.Core.Path.{◌∙◌, sym, ap}
use Prim.Native.Nat.{ℕ, ◌≤◌}
use native.Mathlib.Nat.{le_antisymm, le_refl}
use Rattle.std.proofs.Common.{Some}
use Rattle.model.proofs.Sheet.{row_sized}
use Rattle.laws.proofs.Climb.{Climbed, climbed_first}
use Rattle.model.specs.Interference.{rta_right}
use Rattle.model.proofs.Interference.{rta_right_from_cost}
use Rattle.model.proofs.Answer.{climb_found, climb-none}
use Rattle.rows.specs.Words.{found_of}
use Rattle.refinement.specs.Asked.{sheet}
use Rattle.pending.specs.Added.{MetBy}
use Rattle.refinement.proofs.Kept.{met_kept}
use Rattle.refinement.proofs.Exclusion.{right_stands, climb_on}
use Rattle.jumps.proofs.rta_quickly.Goals as goal
use Rattle.jumps.proofs.rta_quickly.Goals.{After-leap_far-from}

pub loop-x-init : goal.loop-x-init
loop-x-init c =
    let sized = row_sized _ c.args.given.now.ready.rows c.args.row c.requires in
    let own = c.of_row-sought.ensures.0 in record {
      climbed = rw own (climbed_first _ _ (rta_right_from_cost _ _ _ _ _));
      behind = omega arith;
      met = rw own c.meet_others.ensures;
    }

-- What is kept at the leap's end is met at every number above X.
met : (c : After-leap_far-from) (y : ℕ) → c.loop-x.x ≤ y
    → MetBy (sheet c.args.given.now.asked) c.args.given.now.bounds.now c.leap_far-from.new.pending c.args.row y
met c y later =
    let q = c.loop-x in
    let leapt = c.leap_far-from.ensures in
    let own = c.of_row-sought.ensures.0 in
    met_kept _ _ _ _ _ _ _ _ _ _ q.x y q.invariant.met own (omega (arith, q.invariant.climbed.from)) later (c.leap_far-from.new.pending.kept, leapt.fewer) leapt.sums

-- The climb stands where the leap ends.
climbed : (c : After-leap_far-from) → let s = sheet c.args.given.now.asked in
    Climbed (rta_right s c.args.given.now.asked.processors c.args.row c.args.given.now.bounds.now) (s.cost c.args.row) c.leap_far-from.result
climbed c =
    let q = c.loop-x in
    let goes = rw c.of_row-sought.ensures.2 at c.leap_far-from.ensures.goes in
    let own = c.of_row-sought.ensures.0 in
    climb_on _ _ _ _ _ _ q.x _ (met (goal.at.After-leap_far-from c).After-leap_far-from q.x (le_refl q.x)) (omega arith) _ _ own
    (omega (arith, q.invariant.climbed.from)) goes.0 goes.2 q.invariant.climbed

pub returns-then-next-from : goal.returns-then-next-from
unfolding found_of
returns-then-next-from c =
    let from = c.leap_far-from.result in
    let leapt = c.leap_far-from.ensures.goes in
    let own = c.of_row-sought.ensures.0 in
    let there = climbed (goal.at.returns-then-next-from c).After-leap_far-from in
    let short = rw c.of_row-sought.ensures.2 at (c.onward-next.ensures.stands c.if-next-from.true) in
    let stays = right_stands _ _ _ _ _ _ from _ (met (goal.at.returns-then-next-from c).After-leap_far-from from leapt.0) (omega arith) _ own (omega (arith, there.from)) short in
    ap Some c.if-next-from.true
    ∙ sym (ap found_of (climb_found _ _ _ _ from there (omega (arith, leapt.1, c.of_row-sought.ensures.1)) (le_antisymm there.rises stays)))

pub returns : goal.returns
unfolding found_of
returns c = sym (ap found_of (climb-none _ _ _ _ _ c.loop-x.invariant.climbed (omega (arith, c.of_row-sought.ensures.1))))

-- And where the next number is.
pub loop-x-preserved : goal.loop-x-preserved
loop-x-preserved c =
    let from = c.leap_far-from.result in
    let there = climbed (goal.at.loop-x-preserved c).After-leap_far-from in
    let leapt = c.leap_far-from.ensures.goes in
    let goes = rw c.of_row-sought.ensures.2 at c.onward-next.ensures.goes in
    let at_next = met (goal.at.loop-x-preserved c).After-leap_far-from in record {
      climbed = climb_on _ _ _ _ _ _ from _ (at_next from leapt.0) (omega arith) _ _ c.of_row-sought.ensures.0 (omega (arith, there.from)) goes.0 goes.1 there;
      behind = omega (arith, leapt.0, goes.0, c.if-next-from.false, c.loop-x.invariant.behind);
      met = at_next _ (omega (arith, leapt.0, goes.0));
    }
