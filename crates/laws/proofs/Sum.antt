-- Laws of sums over places, by induction on the number of places.
use mathlib.Core.Path.{◌≡◌, refl, sym, ap, ap₂}
use mathlib.Core.Bool.{Bool, true, false}
use mathlib.Core.Logic.{⊎_elim}
use Prim.Native.Nat.{ℕ, zero, suc, ◌+◌, ◌*◌, ◌≤◌, ◌<◌}
use native.Mathlib.Nat.{add-le-add, eq-or-lt_of_le, le_of_suc-le-suc, le_step, le_refl, lt-suc_self, add-lt-add_of_lt_of_le, add-lt-add_of_le_of_lt, not-le_of_lt, le_antisymm, zero-mul, suc-mul, add-mul}
use native.Mathlib.Numerals.{add-one}
use native.Mathlib.Omega.{arith}
use borrow.Author.Tests.{eq-eqb, ne_eqb}
use lib.Dec.{eqb}
use Rattle.laws.specs.Choice.{pick}
use Rattle.laws.specs.Sum.{total, unless}
use Rattle.laws.proofs.Order.{below_or_from}
use Rattle.laws.proofs.Choice.{pick_yes, pick_no}

-- One place more adds its value.
pub total_step : (f : ℕ → ℕ) (n : ℕ) → total f (n + 1) ≡ total f n + f n
unfolding total
total_step f n = rw add-one

-- A sum is no larger where no term is.
pub total_mono : (f g : ℕ → ℕ) (n : ℕ) → ((i : ℕ) → i < n → f i ≤ g i) → total f n ≤ total g n
unfolding total
total_mono f g zero each = le_refl 0
total_mono f g (suc n) each = add-le-add (total_mono f g n (λ i h. each i (le_step h))) (each n (lt-suc_self n))

-- A sum is the same where each term is.
pub total-same : (f g : ℕ → ℕ) (n : ℕ) → ((i : ℕ) → i < n → f i ≡ g i) → total f n ≡ total g n
unfolding total
total-same f g zero each = refl
total-same f g (suc n) each = ap₂ ◌+◌ (total-same f g n (λ i h. each i (le_step h))) (each n (lt-suc_self n))

-- A sum of sums is the sum of both.
pub total_add : (f g : ℕ → ℕ) (n : ℕ) → total (λ i. f i + g i) n ≡ total f n + total g n
unfolding total
total_add f g zero = refl
total_add f g (suc n) = omega (arith, total_add f g n)

-- A sum is smaller where no term is larger and one is smaller.
pub total_strict : (f g : ℕ → ℕ) (n k : ℕ) → ((i : ℕ) → i < n → f i ≤ g i) → k < n → f k < g k → total f n < total g n
unfolding total
total_strict f g zero k each here less = absurd (omega arith)
total_strict f g (suc n) k each here less =
    let below : (i : ℕ) → i < n → f i ≤ g i = λ i h. each i (le_step h) in
    ⊎_elim (λ (last : k ≡ n). add-lt-add_of_le_of_lt (total_mono f g n below) (rw last at less))
    (λ (before : k < n). add-lt-add_of_lt_of_le (total_strict f g n k below before less) (each n (lt-suc_self n)))
    (eq-or-lt_of_le (le_of_suc-le-suc here))

-- Where no term is larger and the sum is not smaller, each term is the same.
pub total_tight : (f g : ℕ → ℕ) (n : ℕ) → ((i : ℕ) → i < n → f i ≤ g i) → total g n ≤ total f n → (k : ℕ) → k < n → f k ≡ g k
total_tight f g n each whole k here =
    ⊎_elim (λ (less : f k < g k). absurd (not-le_of_lt (total_strict f g n k each here less) whole))
    (λ (not_less : g k ≤ f k). le_antisymm (each k here) not_less)
    (below_or_from (f k) (g k))

-- A term is no larger than the sum.
pub term_within : (f : ℕ → ℕ) (n k : ℕ) → k < n → f k ≤ total f n
unfolding total
term_within f zero k here = absurd (omega arith)
term_within f (suc n) k here =
    ⊎_elim (λ (last : k ≡ n). rw last (omega arith)) (λ (before : k < n). omega (arith, term_within f n k before))
    (eq-or-lt_of_le (le_of_suc-le-suc here))

-- The sum over fewer places is no larger.
pub total_fewer : (f : ℕ → ℕ) (k n : ℕ) → k ≤ n → total f k ≤ total f n
unfolding total
total_fewer f k zero fewer = let none : k ≡ 0 = omega arith in rw none (le_refl 0)
total_fewer f k (suc n) fewer =
    ⊎_elim (λ (all : k ≡ suc n). rw all (le_refl (total f n + f n)))
    (λ (less : k < suc n). omega (arith, total_fewer f k n (le_of_suc-le-suc less)))
    (eq-or-lt_of_le fewer)

-- A sum of terms within a limit is within that many times the limit.
pub total-within : (f : ℕ → ℕ) (limit n : ℕ) → ((i : ℕ) → i < n → f i ≤ limit) → total f n ≤ n * limit
unfolding total
total-within f limit zero each = omega arith
total-within f limit (suc n) each =
    omega (arith, total-within f limit n (λ i h. each i (le_step h)), each n (lt-suc_self n), suc-mul n limit)

-- Terms all multiplied: so is the sum.
pub total_scaled : (f : ℕ → ℕ) (p n : ℕ) → total (λ i. f i * p) n ≡ total f n * p
unfolding total
total_scaled f p zero = sym (zero-mul p)
total_scaled f p (suc n) = omega (arith, total_scaled f p n, add-mul (total f n) (f n) p)

-- Where there is a place, terms that are each less than so much above others have a sum that is less than that many times as much above.
pub total_near : (f g : ℕ → ℕ) (more n : ℕ) → 1 ≤ n → ((i : ℕ) → i < n → f i < g i + more) → total f n < total g n + n * more
unfolding total
total_near f g more zero some_place each = absurd (omega arith)
total_near f g more (suc zero) some_place each = omega (arith, each 0 (omega arith))
total_near f g more (suc (suc n)) some_place each =
    omega (
      arith,
      total_near f g more (suc n) (omega arith) (λ i h. each i (le_step h)),
      each (suc n) (lt-suc_self (suc n)),
      suc-mul (suc n) more,
    )

-- At the place left out there is 0.
pub unless_here : (k : ℕ) (f : ℕ → ℕ) → unless k f k ≡ 0
unfolding unless
unless_here k f = pick_yes _ _ _ (eq-eqb k k refl)

-- At every other place there is f.
pub unless_other : (k : ℕ) (f : ℕ → ℕ) (i : ℕ) → (i ≡ k → ⊥) → unless k f i ≡ f i
unfolding unless
unless_other k f i other = pick_no _ _ _ (ne_eqb i k other)

-- The sum over every other place lacks what f gives at the place left out.
pub total-unless : (f : ℕ → ℕ) (k n : ℕ) → k < n → total (unless k f) n + f k ≡ total f n
unfolding total
total-unless f k zero inside = absurd (omega arith)
total-unless f k (suc n) inside =
    ⊎_elim (λ (last : k ≡ n).
    let here : unless k f n ≡ 0 = rw last (unless_here n f) in
    omega (arith, here, ap f last, total-same (unless k f) f n (λ i h. unless_other k f i (λ same. absurd (omega arith)))))
    (λ (before : k < n). omega (arith, total-unless f k n before, unless_other k f n (λ same. absurd (omega arith))))
    (eq-or-lt_of_le (le_of_suc-le-suc inside))

-- A sum over every other place is no larger where no term is.
pub unless_mono : (k : ℕ) (f g : ℕ → ℕ) (i : ℕ) → f i ≤ g i → unless k f i ≤ unless k g i
unfolding unless
unless_mono k f g i h = split (eqb i k)
  where
    split : (b : Bool) → pick b 0 (f i) ≤ pick b 0 (g i)
    split true = le_refl 0
    split false = h
