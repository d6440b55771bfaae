-- `demand::lengths::outcome_within` meets its contract. The length loop's invariant: every length before this one is clear. The row loop's:
-- the rows passed are looked at in this length. Each way out of the loops is one verdict.
use mathlib.Core.Path.{◌≡◌, refl, sym, ◌∙◌, ap}
use Prim.Native.Nat.{ℕ, ◌≤◌, ◌<◌}
use native.Mathlib.Nat.{le_trans}
use native.Mathlib.Omega.{arith}
use Rattle.std.specs.Option.{unwrap_or}
use Rattle.std.specs.declared.option.Option.TheVariants.{Some, None}
use Rattle.model.specs.Demand.{miss}
use Rattle.model.proofs.Sheet.{periods_positive}
use Rattle.model.proofs.Demand.{verdict-fixed}
use Rattle.columns.specs.Checked.{checked_sheet}
use Rattle.rows.specs.Words.{Found}
use Rattle.verdict.specs.OneProcessor.{outcome_of}
use Rattle.verdict.specs.Inner.{look_of, furthest}
use Rattle.verdict.proofs.Looked.{look_demand, looked_none, looked_more, looked_over, cleared_next}
use Rattle.verdict.proofs.Sound.{row_demand_fits}
use Rattle.verdict.proofs.Last.{last_bounds, decided}
use Rattle.demand.proofs.lengths.outcome_within.Goals as goal
use Rattle.demand.proofs.lengths.outcome_within.Goals.{After-unwrap_or-last, In-loop-length, In-loop-row}

-- The busy length, else the horizon, is the last length to look at.
furthest_lem : (busy : Found) (horizon : ℕ) → unwrap_or busy horizon ≡ furthest busy horizon
unfolding furthest
furthest_lem (Some length) horizon = refl
furthest_lem None horizon = refl

last : (c : After-unwrap_or-last) → c.unwrap_or-last.result ≡ furthest c.args.busy c.args.horizon
last c = c.unwrap_or-last.ensures ∙ furthest_lem c.args.busy c.args.horizon

-- It is at most the horizon, which is at most 16,777,216.
bounds : (c : After-unwrap_or-last) → (c.unwrap_or-last.result ≤ c.args.horizon) × (c.unwrap_or-last.result ≤ 16_777_216)
bounds c =
    let upto : c.unwrap_or-last.result ≤ c.args.horizon = rw (last (goal.at.After-unwrap_or-last c).After-unwrap_or-last) (last_bounds _ _ _ c.requires.climbed c.requires.allowed.0).1 in
    (upto, le_trans upto c.requires.allowed.1)

-- A length looked at is at most the horizon.
short : (c : In-loop-length) → c.loop-length.length ≤ c.args.horizon
short c = le_trans c.loop-length-test.true (bounds (goal.at.In-loop-length c).After-unwrap_or-last).0

-- A row looked at is the sheet's.
here : (c : In-loop-row) → c.loop-row.row < (checked_sheet c.args.checked).rows
here c = rw c.count-row-end.ensures at c.loop-row-test.true

pub clear_up_to-length-requires : goal.clear_up_to-length-requires
clear_up_to-length-requires c = (bounds (goal.at.clear_up_to-length-requires c).After-unwrap_or-last).1

pub overflow_add-length : goal.overflow_add-length
overflow_add-length c = omega (arith, bounds (goal.at.overflow_add-length c).After-unwrap_or-last, c.clear_up_to-length.ensures.0)

pub overflow_add-next : goal.overflow_add-next
overflow_add-next c = omega (arith, bounds (goal.at.overflow_add-next c).After-unwrap_or-last)

pub loop-row-init : goal.loop-row-init
loop-row-init c = looked_none _ _ _ c.loop-length-test.true

pub look_at-look-requires : goal.look_at-look-requires
look_at-look-requires c =
    (here (goal.at.look_at-look-requires c).In-loop-row, le_trans (short (goal.at.look_at-look-requires c).In-loop-length) c.requires.allowed.1)

pub overflow_add-sum : goal.overflow_add-sum
overflow_add-sum c =
    let t = c.loop-length.length in
    let looked : c.loop-row.sum ≤ t = c.loop-row.invariant.within in
    let within : c.args.horizon ≤ 16_777_216 = c.requires.allowed.1 in
    let upto : t ≤ c.args.horizon = short (goal.at.overflow_add-sum c).In-loop-length in
    omega (arith, look_demand _ _ _ c.look_at-look.ensures, row_demand_fits _ c.args.checked.sizes _ (here (goal.at.overflow_add-sum c).In-loop-row) t)

pub returns-then-length-sum : goal.returns-then-length-sum
unfolding outcome_of
returns-then-length-sum c =
    let cleared = c.loop-length.invariant in
    sym
    (ap outcome_of
    (verdict-fixed _ _ (miss c.loop-length.length)
    (record {
      positive = cleared.positive;
      within = short (goal.at.returns-then-length-sum c).In-loop-length;
      over = looked_over _ _ _ _ _ _ c.loop-row.invariant (here (goal.at.returns-then-length-sum c).In-loop-row)
          (rw (look_demand _ _ _ c.look_at-look.ensures) at c.if-length-sum.true);
      lowest = cleared.lowest;
    })))

pub loop-row-preserved : goal.loop-row-preserved
unfolding look_of
loop-row-preserved c =
    let demand = look_demand _ _ _ c.look_at-look.ensures in
    rw (demand, c.min-next.ensures, c.look_at-look.ensures)
    (looked_more _ _ _ c.loop-row.row c.loop-row.sum c.loop-row.next
    (periods_positive _ c.args.checked.sizes _ (here (goal.at.loop-row-preserved c).In-loop-row)) c.loop-row.invariant
    (rw demand at c.if-length-sum.false))

pub loop-length-preserved : goal.loop-length-preserved
loop-length-preserved c =
    let all : c.loop-row.row ≡ c.count-row-end.result = omega arith in
    cleared_next _ (periods_positive _ c.args.checked.sizes) _ _ _ _ c.loop-length.invariant
    (rw (all, c.count-row-end.ensures) at c.loop-row.invariant)

pub returns : goal.returns
returns c =
    c.without_miss.ensures
    ∙ decided _ _ _ c.requires.climbed c.args.checked.sizes
    (λ u from upto. c.loop-length.invariant.lowest u from (omega (arith, last (goal.at.returns c).After-unwrap_or-last)))
