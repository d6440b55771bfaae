-- Order of numbers: a case split, and that division and `min` keep order.
use mathlib.Core.Logic.{◌⊎◌, inl, inr}
use Prim.Native.Nat.{ℕ, zero, suc, ◌/◌, ◌≤◌, ◌<◌, min}
use native.Mathlib.Nat.{div-zero, div-mul-le_self, le-div_iff_mul-le, le_trans, zero-lt-suc}
use native.Mathlib.Decide.{dec_lt}
use native.Mathlib.Omega.{arith}

-- One number is below another, or it is not.
pub below_or_from : (a b : ℕ) → (a < b) ⊎ (b ≤ a)
below_or_from a b = decided (dec_lt a b)
  where
    decided : Dec (a < b) → (a < b) ⊎ (b ≤ a)
    decided (yes less) = inl less
    decided (no not_less) = inr (omega arith)

-- Division by one number keeps order, by 0 too.
pub div_mono : (m : ℕ) {a b : ℕ} → a ≤ b → a / m ≤ b / m
div_mono zero {a} {b} h = omega (arith, div-zero a)
div_mono (suc m) {a} {b} h = (le-div_iff_mul-le (zero-lt-suc m)).1 (le_trans (div-mul-le_self a (suc m)) h)

-- The lesser of two keeps order in both.
pub min_mono : {a b c d : ℕ} → a ≤ b → c ≤ d → min a c ≤ min b d
min_mono h k = omega arith
