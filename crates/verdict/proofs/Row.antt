-- One row's jobs in a length. The first deadline behind the length is D + jobs × T, and up to it no job more is due.
use mathlib.Core.Path.{◌≡◌, refl, sym, ◌∙◌}
use mathlib.Core.Bool.{Bool, true, false}
use mathlib.Core.Logic.{⊎_elim}
use Prim.Native.Nat.{ℕ, ◌+◌, ◌*◌, ◌-◌, ◌/◌, ◌≤◌, ◌<◌}
use native.Mathlib.Nat.{le_trans, zero-mul, add-mul, mul-le-mul_left, div-mul-le_self, div-eq_of_lt, div-lt_iff_lt-mul, lt-div-mul-add}
use native.Mathlib.Omega.{arith}
use borrow.Author.Tests.{lt-ltb, le-ltb}
use lib.Dec.{ltb}
use Rattle.laws.specs.Choice.{pick}
use Rattle.laws.proofs.Order.{below_or_from, div_mono}
use Rattle.laws.proofs.Choice.{pick_yes, pick_no}
use Rattle.model.specs.Demand.{row_demand}
use Rattle.model.proofs.Sheet.{SizedRow}
use Rattle.model.proofs.Demand.{demand_before, demand_from}
use Rattle.verdict.specs.Inner.{jobs_within, next_due}

-- Before the first deadline no job is due; from it on, one and one more for each whole period behind it.
pub jobs_before : (d p t : ℕ) → t < d → jobs_within d p t ≡ 0
unfolding jobs_within
jobs_before d p t early = pick_yes _ _ _ (lt-ltb t d early)

pub jobs_from : (d p t : ℕ) → d ≤ t → jobs_within d p t ≡ (t - d) / p + 1
unfolding jobs_within
jobs_from d p t due = pick_no _ _ _ (le-ltb t d due)

-- So from D to below D + T one job is due, and nothing has to be divided.
pub jobs_once : (d p t : ℕ) → d ≤ t → t < d + p → jobs_within d p t ≡ 1
jobs_once d p t due short =
    let within : t - d < p = omega arith in
    rw (jobs_from d p t due, div-eq_of_lt within)

-- A row's demand is its jobs, each of its cost.
pub jobs_demand : (c d p t : ℕ) → row_demand c d p t ≡ jobs_within d p t * c
unfolding row_demand jobs_within
jobs_demand c d p t = split (ltb t d)
  where
    split : (b : Bool) → pick b 0 (((t - d) / p + 1) * c) ≡ pick b 0 ((t - d) / p + 1) * c
    split true = sym (zero-mul c)
    split false = refl

-- So before the first deadline nothing is demanded, and that deadline is the next.
pub look_before : (c d p t : ℕ) → d ≤ p → t < d → (row_demand c d p t ≡ 0) × (next_due d p t - p ≡ 0) × (next_due d p t ≡ d)
unfolding next_due
look_before c d p t by_period early =
    let none : jobs_within d p t * p ≡ 0 = rw (jobs_before d p t early) (zero-mul p) in
    (demand_before c d p t early, omega (arith, none), omega (arith, none))

-- A row whose cost is at most its deadline and its period demands at most the length.
row_fits : (c d p t : ℕ) → c ≤ d → c ≤ p → row_demand c d p t ≤ t
row_fits c d p t by_deadline by_period =
    ⊎_elim (λ (early : t < d). rw (demand_before c d p t early) (omega arith))
    (λ (due : d ≤ t).
    rw (demand_from c d p t due, add-mul ((t - d) / p) 1 c)
    (omega (arith, mul-le-mul_left ((t - d) / p) by_period, div-mul-le_self (t - d) p)))
    (below_or_from t d)

pub sized_fits : (c d p t : ℕ) → SizedRow c d p → row_demand c d p t ≤ t
sized_fits c d p t sized = row_fits c d p t sized.by_deadline (le_trans sized.by_deadline sized.within_period)

-- The first deadline behind a length lies behind the length.
pub due_ahead : (d p t : ℕ) → 1 ≤ p → t < next_due d p t
unfolding next_due
due_ahead d p t positive =
    ⊎_elim (λ (early : t < d). omega arith)
    (λ (due : d ≤ t).
    rw (jobs_from d p t due, add-mul ((t - d) / p) 1 p) (omega (arith, lt-div-mul-add {a = t - d} positive)))
    (below_or_from t d)

-- It lies at most a period behind it, where the deadline is at most the period.
due_near : (d p t : ℕ) → d ≤ p → next_due d p t ≤ t + p
unfolding next_due
due_near d p t by_period =
    ⊎_elim (λ (early : t < d). rw (jobs_before d p t early, zero-mul p) (omega arith))
    (λ (due : d ≤ t).
    rw (jobs_from d p t due, add-mul ((t - d) / p) 1 p) (omega (arith, div-mul-le_self (t - d) p)))
    (below_or_from t d)

-- Up to it no job more is due.
pub jobs_same : (d p t u : ℕ) → 1 ≤ p → t ≤ u → u < next_due d p t → jobs_within d p u ≡ jobs_within d p t
unfolding next_due
jobs_same d p t u positive later below =
    ⊎_elim
    (λ (early : t < d).
    let still : u < d + 0 = rw (jobs_before d p t early, zero-mul p) at below in
    jobs_before d p u (omega arith) ∙ sym (jobs_before d p t early))
    (λ (due : d ≤ t).
    let short : u < d + ((t - d) / p + 1) * p = rw (jobs_from d p t due) at below in
    let most : (u - d) / p < (t - d) / p + 1 = (div-lt_iff_lt-mul positive).1 (omega arith) in
    let fewest : (t - d) / p ≤ (u - d) / p = div_mono p (omega arith) in
    jobs_from d p u (omega arith) ∙ omega arith ∙ sym (jobs_from d p t due))
    (below_or_from t d)

-- So a row of allowed sizes, looked at in an allowed length, has small numbers.
pub look_small : (c d p t : ℕ) → SizedRow c d p → t ≤ 16_777_216
    → (jobs_within d p t * c ≤ 16_777_216) × (d + jobs_within d p t * p ≤ 17_777_216)
unfolding next_due
look_small c d p t sized short =
    let small : p ≤ 1_000_000 = sized.small in
    let near : d + jobs_within d p t * p ≤ t + p = due_near d p t sized.within_period in
    (rw (← jobs_demand c d p t) (le_trans (sized_fits c d p t sized) short), omega arith)
