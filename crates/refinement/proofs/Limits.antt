-- Why 32 bits are enough: whole periods of a row cost no more than the time they fill, and every time here is at most two millions.
use mathlib.Core.Path.{◌≡◌, refl}
use mathlib.Core.List.{List}
use Prim.Native.Nat.{ℕ, zero, suc, ◌+◌, ◌*◌, ◌-◌, ◌/◌, ◌≤◌, ◌<◌, min}
use native.Mathlib.Nat.{le_trans, mul-le-mul, mul-le-mul_left, mul_comm, div-lt_iff_lt-mul, div-mul-le_self, div-add-mod', zero-mul, suc-mul}
use native.Mathlib.Omega.{arith}
use Rattle.model.specs.Sheet.{Sheet}
use Rattle.model.specs.Interference.{share, carried, work}
use Rattle.refinement.specs.Inner.{term_of}

-- The costs of the whole periods in a time are no more than the time.
pub periods_within : (time period cost : ℕ) → cost ≤ period → time / period * cost ≤ time
periods_within time period cost h = le_trans (mul-le-mul_left (time / period) h) (div-mul-le_self time period)

-- A share is no more than its window.
pub share-within : (c d t r w : ℕ) → c ≤ t → share c d t r w ≤ w
unfolding share
share-within c d t r w h = omega (arith, mul-le-mul_left (w / t) h, div-add-mod' w t)

-- Processors times a time stay within 64 millions.
pub product_small : (m x : ℕ) → m ≤ 64 → x ≤ 1_000_000 → m * x ≤ 64_000_000
product_small m x few small = mul-le-mul few small

-- A sum below m · (X − C + 1) does not pass X.
pub not_passed : (m cost x sum : ℕ) → 1 ≤ m → cost ≤ x → sum < m * (x - cost + 1) → cost + sum / m ≤ x
not_passed m cost x sum positive from below =
    let few : sum / m < x - cost + 1 = (div-lt_iff_lt-mul positive).1 (rw (mul_comm (x - cost + 1) m) below) in
    omega arith

-- A row that has its cost does some work in any time, and so in any window where its bound is no smaller.
pub carried_positive : (c t y : ℕ) → 1 ≤ c → 1 ≤ y → 1 ≤ carried c t y
unfolding carried
carried_positive c t y positive window = some-work (y / t) refl
  where
    some-work : (n : ℕ) → y / t ≡ n → 1 ≤ y / t * c + min c (y - y / t * t)
    some-work zero periods = rw periods (omega (arith, zero-mul c, zero-mul t))
    some-work (suc n) periods = rw periods (omega (arith, suc-mul n c))

pub work_positive : (c t r l : ℕ) → 1 ≤ c → c ≤ r → 1 ≤ l → 1 ≤ work c t r l
unfolding work
work_positive c t r l positive bound window = carried_positive c t (l + r - c) positive (omega arith)

-- No term is above the cap.
pub term_within_cap : (s : Sheet) (R : List ℕ) (given : ℕ → ℕ) (x cap i : ℕ) → term_of s R given x cap i ≤ cap
unfolding term_of
term_within_cap s R given x cap i = omega arith
