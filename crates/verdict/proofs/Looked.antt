-- From one deadline to the next. Demand changes only at deadlines, so a length that does not miss clears every length up to the next
-- deadline of any row.
use mathlib.Core.Path.{◌≡◌, refl, sym, ◌∙◌, ap}
use mathlib.Core.Logic.{⊎_elim}
use Prim.Native.Nat.{ℕ, ◌+◌, ◌*◌, ◌≤◌, ◌<◌, min}
use native.Mathlib.Nat.{le_trans}
use native.Mathlib.Omega.{arith}
use borrow.Author.Count.{below_more}
use Rattle.laws.specs.Sum.{total}
use Rattle.laws.proofs.Order.{below_or_from}
use Rattle.laws.proofs.Sum.{total_step, total-same, total_fewer}
use Rattle.model.specs.Sheet.{Sheet}
use Rattle.model.specs.Demand.{demand_of, demand}
use Rattle.verdict.specs.declared.Look.{Look}
use Rattle.verdict.specs.Inner.{next_due, look_of, Clear}
use Rattle.verdict.proofs.Row.{look_before, due_ahead, jobs_demand, jobs_same}

-- A look at a row shows its demand.
pub look_demand : (s : Sheet) (t i : ℕ) {look : Look} → look ≡ look_of s t i → look.demand ≡ demand_of s t i
unfolding look_of
look_demand s t i looked = ap (λ (look : Look). look.demand) looked

-- In a length before the first deadline it shows none, and that deadline is the next.
pub look_early : (s : Sheet) (t i : ℕ) → s.deadline i ≤ s.period i → t < s.deadline i
    → record { demand = 0; since = 0; next = s.deadline i } ≡ look_of s t i
unfolding look_of demand_of
look_early s t i by_period early =
    let facts = look_before (s.cost i) (s.deadline i) (s.period i) t by_period early in
    rw (facts.0, facts.1, facts.2)

-- The first rows, looked at in length t: their demand, which does not exceed t, and a length behind t, at most one behind the last, before
-- which none of them has a deadline.
pub record Looked (s : Sheet) (last t row sum next : ℕ) : Type 0 where
  pub counted : sum ≡ total (demand_of s t) row
  pub within : sum ≤ t
  pub ahead : t < next
  pub upto : next ≤ last + 1
  pub quiet : (i : ℕ) → i < row → next ≤ next_due (s.deadline i) (s.period i) t

-- Every length before t is clear, and t is one to look at or the one behind the last.
pub record Cleared (s : Sheet) (last t : ℕ) : Type 0 where
  pub positive : 1 ≤ t
  pub within : t ≤ last + 1
  pub lowest : (u : ℕ) → 1 ≤ u → u < t → demand s u ≤ u

-- Behind the lengths shown to be clear.
pub cleared_first : (s : Sheet) (last upto : ℕ) → upto ≤ last → Clear s 0 upto → Cleared s last (upto + 1)
cleared_first s last upto within clear =
    record { positive = omega arith; within = omega arith; lowest = λ u from below. clear u from (omega arith) }

-- No row looked at.
pub looked_none : (s : Sheet) (last t : ℕ) → t ≤ last → Looked s last t 0 0 (last + 1)
unfolding total
looked_none s last t within =
    record {
      counted = refl;
      within = omega arith;
      ahead = omega arith;
      upto = omega arith;
      quiet = λ i below. absurd (omega arith);
    }

-- One row more, whose demand still fits.
pub looked_more : (s : Sheet) (last t row sum next : ℕ) → 1 ≤ s.period row → Looked s last t row sum next
    → sum + demand_of s t row ≤ t
    → Looked s last t (row + 1) (sum + demand_of s t row) (min next (next_due (s.deadline row) (s.period row) t))
looked_more s last t row sum next positive looked fits =
    let due : ℕ = next_due (s.deadline row) (s.period row) t in
    let ahead : t < next = looked.ahead in
    let upto : next ≤ last + 1 = looked.upto in
    record {
      counted = rw (total_step, ← looked.counted);
      within = fits;
      ahead = omega (arith, due_ahead (s.deadline row) (s.period row) t positive);
      upto = omega arith;
      quiet =
          below_more (λ i. min next due ≤ next_due (s.deadline i) (s.period i) t) row
          (λ i below. le_trans (omega arith) (looked.quiet i below)) (omega arith);
    }

-- A sum that exceeds the length, whichever rows are left, is a miss.
pub looked_over : (s : Sheet) (last t row sum next : ℕ) → Looked s last t row sum next → row < s.rows
    → t < sum + demand_of s t row → t < demand s t
unfolding demand
looked_over s last t row sum next looked here over =
    let counted : sum ≡ total (demand_of s t) row = looked.counted in
    omega (arith, total_step (demand_of s t) row, total_fewer (demand_of s t) (row + 1) s.rows (omega arith))

module _ (s : Sheet) (positive : (i : ℕ) → i < s.rows → 1 ≤ s.period i) where
  -- Demand is the same up to the next deadline.
  demand-same : (t u next : ℕ) → t ≤ u → u < next → ((i : ℕ) → i < s.rows → next ≤ next_due (s.deadline i) (s.period i) t)
      → demand s u ≡ demand s t
  unfolding demand demand_of
  demand-same t u next later below quiet =
      total-same (demand_of s u) (demand_of s t) s.rows
      (λ i here.
      let before : u < next_due (s.deadline i) (s.period i) t = le_trans below (quiet i here) in
      jobs_demand (s.cost i) (s.deadline i) (s.period i) u
      ∙ ap (λ (jobs : ℕ). jobs * s.cost i) (jobs_same (s.deadline i) (s.period i) t u (positive i here) later before)
      ∙ sym (jobs_demand (s.cost i) (s.deadline i) (s.period i) t))

  -- All rows looked at in a clear length: every length before the next is clear.
  clear_below : (last t sum next : ℕ) → Cleared s last t → Looked s last t s.rows sum next
      → (u : ℕ) → 1 ≤ u → u < next → demand s u ≤ u
  unfolding demand
  clear_below last t sum next cleared looked u from below =
      ⊎_elim (λ (before : u < t). cleared.lowest u from before)
      (λ (later : t ≤ u).
      let counted : sum ≡ demand s t = looked.counted in
      let within : sum ≤ t = looked.within in
      omega (arith, demand-same t u next later below looked.quiet))
      (below_or_from u t)

  -- So it is the next to look at, or the one behind the last.
  pub cleared_next : (last t sum next : ℕ) → Cleared s last t → Looked s last t s.rows sum next → Cleared s last next
  cleared_next last t sum next cleared looked =
      let ahead : t < next = looked.ahead in
      let from : 1 ≤ t = cleared.positive in
      record { positive = omega arith; within = looked.upto; lowest = clear_below last t sum next cleared looked }
