-- Laws of the greatest and of the product over places, by induction on the number of places.
use mathlib.Core.Path.{◌≡◌, ◌∙◌, sym}
use mathlib.Core.Logic.{⊎_elim}
use Prim.Native.Nat.{ℕ, zero, suc, ◌+◌, ◌*◌, ◌≤◌, ◌<◌, ◌∣◌, max}
use native.Mathlib.Nat.{le_antisymm, le_refl, le_of_eq, le_step, le_of_suc-le-suc, lt-suc_self, eq-or-lt_of_le, mul-le-mul_right, zero-mul, one-le-mul, dvd-mul_left, dvd-mul_right_of_dvd}
use native.Mathlib.Numerals.{add-one}
use native.Mathlib.Omega.{arith}
use Rattle.laws.specs.Sum.{product, greatest}
use Rattle.laws.proofs.Order.{below_or_from}

-- One place more: its value, where that is greater.
pub greatest_step : (f : ℕ → ℕ) (n : ℕ) → greatest f (n + 1) ≡ max (greatest f n) (f n)
unfolding greatest
greatest_step f n = rw add-one

-- No value is above the greatest.
pub greatest_above : (f : ℕ → ℕ) (n k : ℕ) → k < n → f k ≤ greatest f n
unfolding greatest
greatest_above f zero k here = absurd (omega arith)
greatest_above f (suc n) k here =
    ⊎_elim (λ (last : k ≡ n). rw last (omega arith)) (λ (before : k < n). omega (arith, greatest_above f n k before))
    (eq-or-lt_of_le (le_of_suc-le-suc here))

-- A limit of all values is a limit of the greatest.
pub greatest-within : (f : ℕ → ℕ) (limit n : ℕ) → ((i : ℕ) → i < n → f i ≤ limit) → greatest f n ≤ limit
unfolding greatest
greatest-within f limit zero each = omega arith
greatest-within f limit (suc n) each =
    omega (arith, greatest-within f limit n (λ i h. each i (le_step h)), each n (lt-suc_self n))

-- Values that are each at most so much above others: so is the greatest of them.
pub greatest_near : (f g : ℕ → ℕ) (more n : ℕ) → ((i : ℕ) → i < n → f i ≤ g i + more) → greatest f n ≤ greatest g n + more
greatest_near f g more n each =
    greatest-within f (greatest g n + more) n (λ i here. omega (arith, each i here, greatest_above g n i here))

-- So the greatest keeps order, and is the same where each value is.
pub greatest_mono : (f g : ℕ → ℕ) (n : ℕ) → ((i : ℕ) → i < n → f i ≤ g i) → greatest f n ≤ greatest g n
greatest_mono f g n each = omega (arith, greatest_near f g 0 n (λ i here. omega (arith, each i here)))

pub greatest-same : (f g : ℕ → ℕ) (n : ℕ) → ((i : ℕ) → i < n → f i ≡ g i) → greatest f n ≡ greatest g n
greatest-same f g n each =
    le_antisymm (greatest_mono f g n (λ i here. le_of_eq (each i here))) (greatest_mono g f n (λ i here. le_of_eq (sym (each i here))))

-- A place of the greatest value.
pub record GreatestAt (f : ℕ → ℕ) (n : ℕ) : Type 0 where
  pub place : ℕ
  pub here : place < n
  pub is_greatest : f place ≡ greatest f n

-- Where there is a place, there is such a place: the last, or one before it.
pub greatest_at : (f : ℕ → ℕ) (n : ℕ) → 1 ≤ n → GreatestAt f n
unfolding greatest
greatest_at f zero some_place = absurd (omega arith)
greatest_at f (suc zero) some_place = record { place = 0; here = omega arith; is_greatest = omega arith }
greatest_at f (suc (suc n)) some_place =
    let before = greatest_at f (suc n) (omega arith) in
    ⊎_elim
    (λ (less : greatest f (suc n) < f (suc n)). record { place = suc n; here = lt-suc_self (suc n); is_greatest = omega arith })
    (λ (not_less : f (suc n) ≤ greatest f (suc n)).
    record { place = before.place; here = le_step before.here; is_greatest = before.is_greatest ∙ omega arith })
    (below_or_from (greatest f (suc n)) (f (suc n)))

-- What keeps order takes the greatest to the greatest: at a place of the greatest value, whatever rises with it is greatest too.
pub greatest_kept : (f g : ℕ → ℕ) (n k : ℕ) → k < n → f k ≡ greatest f n → ((i : ℕ) → i < n → f i ≤ f k → g i ≤ g k) → g k ≡ greatest g n
greatest_kept f g n k here top rises =
    le_antisymm (greatest_above g n k here)
    (greatest-within g (g k) n (λ i inside. rises i inside (omega (arith, top, greatest_above f n i inside))))

-- Values all multiplied: so is the greatest.
pub greatest_scaled : (f : ℕ → ℕ) (p n : ℕ) → greatest (λ i. f i * p) n ≡ greatest f n * p
unfolding greatest
greatest_scaled f p zero = sym (zero-mul p)
greatest_scaled f p (suc n) =
    ⊎_elim
    (λ (less : greatest f n < f n).
    let most : max (greatest f n) (f n) ≡ f n = omega arith in
    let grows : greatest f n * p ≤ f n * p = mul-le-mul_right p (omega arith) in
    rw most (omega (arith, greatest_scaled f p n)))
    (λ (not_less : f n ≤ greatest f n).
    let most : max (greatest f n) (f n) ≡ greatest f n = omega arith in
    let grows : f n * p ≤ greatest f n * p = mul-le-mul_right p not_less in
    rw most (omega (arith, greatest_scaled f p n)))
    (below_or_from (greatest f n) (f n))

-- A product of numbers from 1 on is at least 1, and each of them divides it.
pub product_positive : (f : ℕ → ℕ) (n : ℕ) → ((i : ℕ) → i < n → 1 ≤ f i) → 1 ≤ product f n
unfolding product
product_positive f zero each = le_refl 1
product_positive f (suc n) each = one-le-mul (product_positive f n (λ i h. each i (le_step h))) (each n (lt-suc_self n))

pub product_divides : (f : ℕ → ℕ) (n k : ℕ) → k < n → f k ∣ product f n
unfolding product
product_divides f zero k here = absurd (omega arith)
product_divides f (suc n) k here =
    ⊎_elim (λ (last : k ≡ n). rw last (dvd-mul_left (f n) (product f n)))
    (λ (before : k < n). dvd-mul_right_of_dvd (f k) (product_divides f n k before) (f n))
    (eq-or-lt_of_le (le_of_suc-le-suc here))
