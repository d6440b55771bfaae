-- The density test. Both roundings are off by less than one billionth and do not depend on how a fraction is told, so over a common
-- denominator each row's rounded density is a rounding of its exact one, and the left sides are as near as their rows are.
use mathlib.Core.Path.{◌≡◌, refl, sym, ◌∙◌, ap, ap₂}
use mathlib.Core.Bool.{Bool, true, false, not}
use Prim.Native.Nat.{ℕ, zero, suc, ◌+◌, ◌*◌, ◌-◌, ◌/◌, ◌≤◌, ◌<◌}
use native.Mathlib.Nat.{le_trans, le_of_suc-le-suc, suc-mul, le_of_lt, add-le-add, le_refl, le_of_eq, lt_of_lt_of_le, lt_of_le_of_lt, mul_comm, mul_assoc, mul_right_comm, mul-le-mul_right, mul-lt-mul_of_pos_right, le_of_mul-le-mul_right, lt_of_mul-lt-mul_right, eq_of_mul-eq-mul_right, div-mul-le_self, div-zero, div-mul_cancel}
use native.Mathlib.Omega.{arith}
use borrow.Author.Tests.{leb-true, leb-false, le-leb, lt-leb}
use lib.Dec.{leb}
use Rattle.laws.specs.Choice.{pick}
use Rattle.laws.specs.Sum.{greatest}
use Rattle.laws.proofs.Order.{div_mono}
use Rattle.laws.proofs.Choice.{pick_yes, pick_no}
use Rattle.laws.proofs.Greatest.{greatest_at, greatest_kept, product_positive, product_divides}
use Rattle.model.specs.Sheet.{Sheet, Allowed}
use Rattle.model.specs.Demand.{ceiling}
use Rattle.model.specs.Density.{left_side, Meets, meets, billion, rounded, rounded_up, rounded_down, Judgement, holds, fails, unsure, density, InBillionths, Exact, common_whole, parts_of_whole, Says}
use Rattle.model.specs.Alike.{Alike}
use Rattle.model.proofs.Sheet.{row_sized}
use Rattle.model.proofs.Rounding.{Rounding, floor_rounds, ceiling-rounds, ceiling_above}
use Rattle.model.proofs.LeftSide.{left_side_mono, left_side_same, left_side_scaled, left_side_near}

-- A billion is not 0.
billion_positive : 1 ≤ billion
unfolding billion
billion_positive = omega arith

-- Rounded down is never above rounded up.
down_below_up : (s : Sheet) (i : ℕ) → rounded_down s i ≤ rounded_up s i
unfolding rounded ceiling
down_below_up s i = by_deadline (s.deadline i)
  where
    by_deadline : (d : ℕ) → s.cost i * billion / d ≤ (s.cost i * billion + d - 1) / d
    by_deadline zero = omega (arith, div-zero (s.cost i * billion))
    by_deadline (suc d) = div_mono (suc d) (omega arith)

-- Every deadline of an allowed sheet is at least 1.
pub deadlines_whole : (s : Sheet) → Allowed s → (i : ℕ) → i < s.rows → 1 ≤ s.deadline i
deadlines_whole s sizes i here = let row = row_sized s sizes i here in le_trans row.positive row.by_deadline

-- A density is at most 1, however it is rounded, where the cost is at most the deadline.
pub rounded-within : (s : Sheet) → Allowed s → (rounding : ℕ → ℕ → ℕ) → Rounding rounding → (i : ℕ) → i < s.rows
    → rounded rounding s i ≤ billion
unfolding rounded
rounded-within s sizes rounding rounds i here =
    le_of_suc-le-suc
    (lt_of_mul-lt-mul_right (s.deadline i)
    (lt_of_lt_of_le (rounds.above_by_less (s.cost i * billion) (s.deadline i) (deadlines_whole s sizes i here))
    (omega (arith, mul-le-mul_right billion (row_sized s sizes i here).by_deadline, mul_comm (s.deadline i) billion, suc-mul billion (s.deadline i)))))

-- What the answer means in billionths, and that the meaning fixes it: rounded down is never above rounded up.
pub density_means : (s : Sheet) (m : ℕ) → InBillionths s m (density s m)
unfolding density meets
density_means s m = split (meets m billion (rounded_up s) s.rows) refl (meets m billion (rounded_down s) s.rows) refl
  where
    split : (up : Bool) → meets m billion (rounded_up s) s.rows ≡ up → (down : Bool) → meets m billion (rounded_down s) s.rows ≡ down
        → InBillionths s m (pick up holds (pick (not down) fails unsure))
    split true is_up down is_down = leb-true _ _ is_up
    split false is_up true is_down = record { not_met = leb-false _ _ is_up; not_broken = leb-true _ _ is_down }
    split false is_up false is_down = leb-false _ _ is_down

pub density-fixed : (s : Sheet) (m : ℕ) (said : Judgement) → InBillionths s m said → said ≡ density s m
unfolding density meets
density-fixed s m holds meant = sym (pick_yes _ _ _ (le-leb _ _ meant))
density-fixed s m fails meant =
    let order = left_side_mono m (rounded_down s) (rounded_up s) s.rows (λ i here. down_below_up s i) in
    sym (pick_no _ _ _ (lt-leb _ _ (lt_of_lt_of_le meant order)) ∙ pick_yes _ _ _ (ap not (lt-leb _ _ meant)))
density-fixed s m unsure meant =
    sym (pick_no _ _ _ (lt-leb _ _ meant.not_met) ∙ pick_no _ _ _ (ap not (le-leb _ _ meant.not_broken)))

-- The exact densities, over a common denominator p, of rows whose deadlines are at least 1.
module _ (s : Sheet) (p : ℕ) (x : ℕ → ℕ) (exact : Exact s p x) (whole : (i : ℕ) → i < s.rows → 1 ≤ s.deadline i) where
  -- Each rounded density is that of x / p.
  pub rounded_exact : (rounding : ℕ → ℕ → ℕ) → Rounding rounding → (i : ℕ) → i < s.rows → rounded rounding s i ≡ rounding (x i * billion) p
  unfolding rounded
  rounded_exact rounding rounds i here =
      let c = s.cost i in
      let d = s.deadline i in
      let same : c * billion * p ≡ x i * billion * d =
      mul_right_comm c billion p ∙ ap (λ (product : ℕ). product * billion) (sym (exact.each i here)) ∙ mul_right_comm (x i) d billion in
      sym (rounds.alike (c * billion) d p (whole i here) exact.positive)
      ∙ ap₂ rounding same (mul_comm d p)
      ∙ rounds.alike (x i * billion) p d exact.positive (whole i here)

  -- So rounding keeps the order of rows, and the largest rounded density is the rounding of the largest.
  pub largest_rounded : (rounding : ℕ → ℕ → ℕ) → Rounding rounding → 1 ≤ s.rows
      → greatest (rounded rounding s) s.rows ≡ rounding (greatest x s.rows * billion) p
  largest_rounded rounding rounds some_row =
      let top = greatest_at x s.rows some_row in
      let k = top.place in
      let over = rounded_exact rounding rounds in
      let rises : (i : ℕ) → i < s.rows → x i ≤ x k → rounded rounding s i ≤ rounded rounding s k =
      λ i here less.
      rw (over i here, over k top.here) (rounds.keeps_order p (x i * billion) (x k * billion) exact.positive (mul-le-mul_right billion less)) in
      sym (greatest_kept x (rounded rounding s) s.rows k top.here top.is_greatest rises)
      ∙ over k top.here
      ∙ ap (λ (most : ℕ). rounding (most * billion) p) top.is_greatest

  module _ (m : ℕ) (some_processor : 1 ≤ m) (some_row : 1 ≤ s.rows) where
    -- However densities are rounded, the left side is off by less than n + m − 1 billionths, to either side.
    pub rounded_near : (rounding : ℕ → ℕ → ℕ) → Rounding rounding
        → let n = s.rows in
        (left_side m (rounded rounding s) n * p < left_side m x n * billion + (n + m - 1) * p)
        × (left_side m x n * billion < left_side m (rounded rounding s) n * p + (n + m - 1) * p)
    rounded_near rounding rounds =
        let n = s.rows in
        let over = rounded_exact rounding rounds in
        rw (← left_side_scaled m (rounded rounding s) p n, ← left_side_scaled m x billion n) (
          left_side_near m (λ i. rounded rounding s i * p) (λ i. x i * billion) p n some_processor some_row
              (λ i here. rw (over i here) (rounds.above_by_less (x i * billion) p exact.positive)),
          left_side_near m (λ i. x i * billion) (λ i. rounded rounding s i * p) p n some_processor some_row
              (λ i here. rw (over i here) (rounds.below_by_less (x i * billion) p exact.positive)),
        )

    -- Rounded up the left side is not below the exact one, and rounded down not above it.
    up_above : left_side m x s.rows * billion ≤ left_side m (rounded_up s) s.rows * p
    up_above =
        rw (← left_side_scaled m x billion s.rows, ← left_side_scaled m (rounded_up s) p s.rows)
        (left_side_mono m _ _ s.rows
        (λ i here. rw (rounded_exact ceiling ceiling-rounds i here) (ceiling_above (x i * billion) p exact.positive)))

    down_below : left_side m (rounded_down s) s.rows * p ≤ left_side m x s.rows * billion
    down_below =
        rw (← left_side_scaled m x billion s.rows, ← left_side_scaled m (rounded_down s) p s.rows)
        (left_side_mono m _ _ s.rows
        (λ i here. rw (rounded_exact ◌/◌ floor_rounds i here) (div-mul-le_self (x i * billion) p)))

    -- So what is answered is true of the exact densities.
    says : (said : Judgement) → InBillionths s m said → Says m p x s.rows said
    says holds meant =
        le_of_mul-le-mul_right
        (le_trans up_above (le_trans (mul-le-mul_right p meant) (le_of_eq (mul_right_comm m billion p))))
        billion_positive
    says fails meant =
        lt_of_mul-lt-mul_right billion
        (lt_of_le_of_lt (le_of_eq (mul_right_comm m p billion)) (lt_of_lt_of_le (mul-lt-mul_of_pos_right meant exact.positive) down_below))
    says unsure meant =
        record {
          below_by_less = lt_of_le_of_lt (mul-le-mul_right p (le_of_lt meant.not_met)) (rounded_near ceiling ceiling-rounds).0;
          above_by_less = lt_of_lt_of_le (rounded_near ◌/◌ floor_rounds).1 (add-le-add (mul-le-mul_right p meant.not_broken) (le_refl ((s.rows + m - 1) * p)));
        }

    pub density_says : Says m p x s.rows (density s m)
    density_says = says (density s m) (density_means s m)

-- Which common denominator is taken does not matter: over another one the left side is the same fraction, and the same test is met.
module _ (s : Sheet) (p q : ℕ) (x y : ℕ → ℕ) (exact : Exact s p x) (other : Exact s q y) (whole : (i : ℕ) → i < s.rows → 1 ≤ s.deadline i) where
  pub same_fraction : (m : ℕ) → left_side m y s.rows * p ≡ left_side m x s.rows * q
  same_fraction m =
      let n = s.rows in
      let same : (i : ℕ) → i < n → y i * p ≡ x i * q =
      λ i here.
      eq_of_mul-eq-mul_right (s.deadline i) (whole i here) (y i * p) (x i * q)
      (mul_right_comm (y i) p (s.deadline i)
      ∙ ap (λ (product : ℕ). product * p) (other.each i here)
      ∙ mul_right_comm (s.cost i) q p
      ∙ ap (λ (product : ℕ). product * q) (sym (exact.each i here))
      ∙ mul_right_comm (x i) (s.deadline i) q) in
      sym (left_side_scaled m y p n) ∙ left_side_same m (λ i. y i * p) (λ i. x i * q) n same ∙ left_side_scaled m x q n

  pub any_denominator : (m : ℕ) → Meets m p x s.rows → Meets m q y s.rows
  any_denominator m meets_it =
      le_of_mul-le-mul_right
      (le_trans (le_of_eq (same_fraction m)) (le_trans (mul-le-mul_right q meets_it) (le_of_eq (mul_right_comm m p q))))
      exact.positive

-- There is a common denominator: the product of the deadlines is one.
pub exact_parts : (s : Sheet) → ((i : ℕ) → i < s.rows → 1 ≤ s.deadline i) → Exact s (common_whole s) (parts_of_whole s)
unfolding common_whole parts_of_whole
exact_parts s whole =
    record {
      positive = product_positive s.deadline s.rows whole;
      each = λ i here.
          mul_assoc (s.cost i) (common_whole s / s.deadline i) (s.deadline i)
          ∙ ap (λ (product : ℕ). s.cost i * product) (div-mul_cancel (s.deadline i) (product_divides s.deadline s.rows i here));
    }

-- Alike sheets have one answer.
pub density_alike : (s t : Sheet) → Alike s t → (m : ℕ) → density s m ≡ density t m
unfolding density meets rounded
density_alike s t alike m =
    ap₂ (λ (up down : ℕ). pick (leb up (m * billion)) holds (pick (not (leb down (m * billion))) fails unsure)) (sides ceiling) (sides ◌/◌)
  where
    sides : (rounding : ℕ → ℕ → ℕ) → left_side m (rounded rounding s) s.rows ≡ left_side m (rounded rounding t) t.rows
    sides rounding =
        left_side_same m (rounded rounding s) (rounded rounding t) s.rows
        (λ i here. ap₂ rounding (ap (λ (cost : ℕ). cost * billion) (alike.cost i here)) (alike.deadline i here))
        ∙ ap (left_side m (rounded rounding t)) alike.rows
