-- The busy sum keeps order, starts at 1 or more and stays small.
use mathlib.Core.Path.{◌≡◌}
use Prim.Native.Nat.{ℕ, ◌+◌, ◌*◌, ◌-◌, ◌/◌, ◌≤◌, ◌<◌}
use native.Mathlib.Nat.{le_trans, add-div_right, mul-le-mul, mul-le-mul_left, mul-le-mul_right, div-mul-le_self, le-div_iff_mul-le}
use native.Mathlib.Omega.{arith}
use Rattle.laws.specs.Climb.{Monotone}
use Rattle.laws.proofs.Order.{div_mono}
use Rattle.laws.proofs.Sum.{total_mono, term_within}
use Rattle.model.specs.Sheet.{Sheet}
use Rattle.model.specs.Demand.{ceiling, busy_of, busy}

-- A longer length has no smaller busy sum.
pub busy_mono : (s : Sheet) → Monotone (busy s)
unfolding busy busy_of ceiling
busy_mono s t u longer =
    total_mono (busy_of s t) (busy_of s u) s.rows (λ i here. mul-le-mul_right (s.cost i) (div_mono (s.period i) (omega arith)))

-- Length 1 is filled by any row.
pub busy_rises : (s : Sheet) (k : ℕ) → k < s.rows → 1 ≤ s.cost k → 1 ≤ s.period k → 1 ≤ busy s 1
unfolding busy busy_of ceiling
busy_rises s k here some_cost some_period =
    let one_period : 1 ≤ (1 + s.period k - 1) / s.period k = (le-div_iff_mul-le some_period).1 (omega arith) in
    le_trans (mul-le-mul one_period some_cost) (term_within (busy_of s 1) s.rows k here)

-- From length 1 on the ceiling is one more than the whole periods before the last unit of the length.
pub ceiling_from_one : (p t : ℕ) → 1 ≤ p → 1 ≤ t → (t - 1) / p + 1 ≡ ceiling t p
unfolding ceiling
ceiling_from_one p t some_period some-length =
    let apart : t + p - 1 ≡ t - 1 + p = omega arith in
    rw (apart, add-div_right (t - 1) some_period)

-- A row whose cost is at most its period adds at most the length and a period.
pub busy_small : (c p t : ℕ) → c ≤ p → ceiling t p * c ≤ t + p
unfolding ceiling
busy_small c p t by_period =
    omega (arith, mul-le-mul_left ((t + p - 1) / p) by_period, div-mul-le_self (t + p - 1) p)
