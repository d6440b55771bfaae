-- Densities summed up row by row: one density more is one place more, and those of an allowed sheet stay small.
use mathlib.Core.Path.{◌≡◌, refl, ◌∙◌, ap}
use Prim.Native.Nat.{ℕ, ◌+◌, ◌*◌, ◌-◌, ◌≤◌, ◌<◌}
use native.Mathlib.Nat.{le_trans, le_refl, lt_of_lt_of_le, mul-le-mul, mul-le-mul_right}
use native.Mathlib.Omega.{arith}
use Rattle.laws.specs.Sum.{total, greatest}
use Rattle.laws.proofs.Sum.{total_step, total-within}
use Rattle.laws.proofs.Greatest.{greatest_step, greatest-within}
use Rattle.model.specs.Sheet.{Sheet, Allowed}
use Rattle.model.specs.Density.{left_side, billion, rounded}
use Rattle.model.proofs.Sheet.{few_rows}
use Rattle.model.proofs.Rounding.{Rounding}
use Rattle.model.proofs.Density.{deadlines_whole, rounded-within}
use Rattle.quick_look.specs.declared.Side.{Side}
use Rattle.quick_look.specs.Inner.{side_of, side_with, Small}

-- No density yet.
pub side_none : (f : ℕ → ℕ) → ◌≡◌ {A = Side} (record { sum = 0; largest = 0 }) (side_of f 0)
unfolding side_of total greatest
side_none f = refl

-- One density more.
pub side_more : (f : ℕ → ℕ) (n : ℕ) {side : Side} {density : ℕ} → side ≡ side_of f n → density ≡ f n → side_with side density ≡ side_of f (n + 1)
unfolding side_of side_with
side_more f n {side} {density} before is_density = rw (before, is_density, total_step f n, greatest_step f n)

-- The left side of densities, from their sum and the largest.
pub left_side_of : (m : ℕ) (f : ℕ → ℕ) (n : ℕ) {side : Side} {left : ℕ} → side ≡ side_of f n → left ≡ side.sum + (m - 1) * side.largest
    → left ≡ left_side m f n
unfolding side_of left_side
left_side_of m f n {side} {left} is_side is_left = is_left ∙ ap (λ (s : Side). s.sum + (m - 1) * s.largest) is_side

-- The largest, taken for each of at most 64 processors but one.
pub extra_small : (m : ℕ) (side : Side) → m ≤ 64 → Small side → (m - 1) * side.largest ≤ 63_000_000_000
extra_small m side few small = mul-le-mul {n₁ = m - 1} {n₂ = 63} {m₂ = 1_000_000_000} (omega arith) small.largest_small

module _ (s : Sheet) (sizes : Allowed s) where
  -- The deadline of a row is at least 1.
  pub row_whole : (i : ℕ) → i < s.rows → 1 ≤ s.deadline i
  row_whole i here = deadlines_whole s sizes i here

  module _ (rounding : ℕ → ℕ → ℕ) (rounds : Rounding rounding) where
    -- The density of a row is at most 1, however it is rounded.
    pub row_small : (i : ℕ) → i < s.rows → {density : ℕ} → density ≡ rounded rounding s i → density ≤ 1_000_000_000
    unfolding billion
    row_small i here is_density = rw is_density (rounded-within s sizes rounding rounds i here)

    -- So the first densities are few and small.
    pub side_small : (n : ℕ) → n ≤ s.rows → {side : Side} → side ≡ side_of (rounded rounding s) n → Small side
    unfolding side_of
    side_small n upto is_side =
        let each : (i : ℕ) → i < n → rounded rounding s i ≤ 1_000_000_000 = λ i here. row_small i (lt_of_lt_of_le here upto) refl in
        rw is_side
        (record {
          sum_small = le_trans (total-within (rounded rounding s) 1_000_000_000 n each) (mul-le-mul_right 1_000_000_000 (le_trans upto (few_rows s sizes)));
          largest_small = greatest-within (rounded rounding s) 1_000_000_000 n each;
        })

    -- And so are all of the sheet's.
    pub whole_small : {side : Side} → side ≡ side_of (rounded rounding s) s.rows → Small side
    whole_small is_side = side_small s.rows (le_refl s.rows) is_side
