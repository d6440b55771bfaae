-- How work rises with time: one a step until the cost of the job at hand is done, without end where the cost fills the period, and never
-- below cost / period of the time.
use mathlib.Core.Path.{◌≡◌, ◌∙◌, ap}
use mathlib.Core.Logic.{⊎_elim}
use Prim.Native.Nat.{ℕ, suc, ◌+◌, ◌*◌, ◌-◌, ◌/◌, ◌≤◌, ◌<◌, min}
use native.Mathlib.Nat.{le_trans, eq-or-lt_of_le, div-mul-le_self, lt-div-mul-add, suc-mul, mul_comm, mul_assoc, mul_left_comm, mul-add, mul-le-mul_left, mul-le-mul_right, le_of_mul-le-mul_left}
use native.Mathlib.Omega.{arith}
use Rattle.laws.proofs.Order.{below_or_from, div_mono}
use Rattle.model.specs.Interference.{carried}

-- Work is within the whole periods' costs and one cost more.
pub carried-within : (c t y : ℕ) → carried c t y ≤ y / t * c + c
unfolding carried
carried-within c t y = omega arith

-- Within a period work rises one a step, to one cost more; over a period's end that cost is done.
pub carried_rises : (c t y d : ℕ) → min (carried c t y + d) (y / t * c + c) ≤ carried c t (y + d)
unfolding carried
carried_rises c t y d =
    let later : y ≤ y + d = omega arith in
    ⊎_elim (λ (same : y / t ≡ (y + d) / t). rw (← same) (omega (arith, div-mul-le_self y t)))
    (λ (fewer : y / t < (y + d) / t).
    let whole : suc (y / t) * c ≤ (y + d) / t * c = mul-le-mul_right c fewer in
    omega (arith, suc-mul (y / t) c))
    (eq-or-lt_of_le (div_mono t later))

-- A cost that fills its period is all of the time.
pub carried_full : (t y : ℕ) → 1 ≤ t → carried t t y ≡ y
unfolding carried
carried_full t y some_period = omega (arith, div-mul-le_self y t, lt-div-mul-add {a = y} {b = t} some_period)

-- Of what is left of a period at least the cost's part of it is done.
part_done : (c t rest : ℕ) → c ≤ t → rest ≤ t → c * rest ≤ t * min c rest
part_done c t rest within short =
    ⊎_elim
    (λ (less : c < rest).
    let all : min c rest ≡ c = omega arith in
    rw (all, mul_comm t c) (mul-le-mul_left c short))
    (λ (not_less : rest ≤ c).
    let all : min c rest ≡ rest = omega arith in
    rw all (mul-le-mul_right rest within))
    (below_or_from c rest)

-- Work is never below cost / period of the time.
pub carried_above : (c t y : ℕ) → c ≤ t → 1 ≤ t → c * y ≤ t * carried c t y
unfolding carried
carried_above c t y within some_period =
    let rest = y - y / t * t in
    let split : y ≡ y / t * t + rest = omega (arith, div-mul-le_self y t) in
    let short : rest ≤ t = omega (arith, lt-div-mul-add {a = y} {b = t} some_period) in
    omega (
      arith,
      ap (λ (x : ℕ). c * x) split ∙ mul-add c (y / t * t) rest,
      mul-add t (y / t * c) (min c rest),
      part_done c t rest within short,
      mul_comm c (y / t * t) ∙ mul_assoc (y / t) t c ∙ mul_left_comm (y / t) t c,
    )

-- Nor below a slope that is at most cost / period, both counted in parts of a whole.
pub slope_below : (c t y slope parts : ℕ) → c ≤ t → 1 ≤ t → slope * t ≤ c * parts → slope * y ≤ parts * carried c t y
slope_below c t y slope parts within some_period gentle =
    le_of_mul-le-mul_left {k = t}
    (le_trans (scaled (mul-le-mul_right y gentle)) (rw (mul_left_comm t parts (carried c t y)) (mul-le-mul_left parts (carried_above c t y within some_period))))
    some_period
  where
    scaled : slope * t * y ≤ c * parts * y → t * (slope * y) ≤ parts * (c * y)
    scaled h = rw (← mul_assoc t slope y, mul_comm t slope, ← mul_assoc parts c y, mul_comm parts c) h
