-- Rounding a fraction, down or up: equal fractions are rounded alike, order is kept, and it is off by less than one.
use mathlib.Core.Path.{◌≡◌, sym, ◌∙◌, ap, ap₂}
use Prim.Native.Nat.{ℕ, ◌+◌, ◌*◌, ◌-◌, ◌/◌, ◌≤◌, ◌<◌}
use native.Mathlib.Nat.{mul_comm, add-mul, div-mul-le_self, lt-div-mul-add, mul-div-mul_right, div-div-eq-div-mul, mul-add-div_right, div-eq_of_lt, div-eq_of_lt-le}
use native.Mathlib.Omega.{arith}
use Rattle.laws.proofs.Order.{div_mono}
use Rattle.model.specs.Demand.{ceiling}

-- A rounding of fractions a / d.
pub record Rounding (rounding : ℕ → ℕ → ℕ) : Type 0 where
  pub alike : (a d k : ℕ) → 1 ≤ d → 1 ≤ k → rounding (a * k) (d * k) ≡ rounding a d
  pub keeps_order : (d a b : ℕ) → 1 ≤ d → a ≤ b → rounding a d ≤ rounding b d
  pub above_by_less : (a d : ℕ) → 1 ≤ d → rounding a d * d < a + d
  pub below_by_less : (a d : ℕ) → 1 ≤ d → a < rounding a d * d + d

pub floor_rounds : Rounding ◌/◌
floor_rounds =
    record {
      alike = λ a d k whole more. mul-div-mul_right a d more;
      keeps_order = λ d a b whole less. div_mono d less;
      above_by_less = λ a d whole. omega (arith, div-mul-le_self a d);
      below_by_less = λ a d whole. lt-div-mul-add whole;
    }

-- Rounding up, told by rounding down, when numerator and denominator are multiplied alike.
ceiling_alike : (a d k : ℕ) → 1 ≤ d → 1 ≤ k → (a * k + d * k - 1) / (d * k) ≡ (a + d - 1) / d
ceiling_alike a d k whole more =
    let last : a + d - 1 + 1 ≡ a + d = omega arith in
    let times : (a + d - 1 + 1) * k ≡ (a + d) * k = ap (λ (sum : ℕ). sum * k) last in
    let parted : a * k + d * k - 1 ≡ (a + d - 1) * k + (k - 1) = omega (arith, times, add-mul a d k, add-mul (a + d - 1) 1 k) in
    let rest : (k - 1) / k ≡ 0 = div-eq_of_lt {n = k - 1} {m = k} (omega arith) in
    ap₂ ◌/◌ parted (mul_comm d k)
    ∙ sym (div-div-eq-div-mul ((a + d - 1) * k + (k - 1)) k d)
    ∙ ap (λ (quotient : ℕ). quotient / d) (mul-add-div_right more (a + d - 1) (k - 1) ∙ omega (arith, rest))

pub ceiling-rounds : Rounding ceiling
unfolding ceiling
ceiling-rounds =
    record {
      alike = ceiling_alike;
      keeps_order = λ d a b whole less. div_mono d (omega arith);
      above_by_less = λ a d whole. omega (arith, div-mul-le_self (a + d - 1) d);
      below_by_less = λ a d whole. omega (arith, lt-div-mul-add {a = a + d - 1} whole);
    }

-- Rounded up is never below, and rounded down never above: that is the library's `div-mul-le_self`.
pub ceiling_above : (a d : ℕ) → 1 ≤ d → a ≤ ceiling a d * d
unfolding ceiling
ceiling_above a d whole = omega (arith, lt-div-mul-add {a = a + d - 1} whole)

-- Rounded up is what it is rounded down, and one more where that leaves a rest.
pub up_with_rest : (a d : ℕ) → 1 ≤ d → a / d * d < a → a / d + 1 ≡ ceiling a d
unfolding ceiling
up_with_rest a d whole rest =
    sym
    (div-eq_of_lt-le d
    (omega (arith, add-mul (a / d) 1 d))
    (omega (arith, lt-div-mul-add {a = a} whole, add-mul (a / d) 1 d, add-mul (a / d + 1) 1 d)))

pub up_without_rest : (a d : ℕ) → 1 ≤ d → a ≤ a / d * d → a / d ≡ ceiling a d
unfolding ceiling
up_without_rest a d whole no_rest =
    sym (div-eq_of_lt-le d (omega (arith, div-mul-le_self a d)) (omega (arith, div-mul-le_self a d, add-mul (a / d) 1 d)))
