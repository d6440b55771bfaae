-- A function that is concave, and not below a line at 0 and at another number, is not below it between them: there it is not below the line
-- through its two ends. Sums, multiples and minima of concave functions are concave.
use mathlib.Core.Path.{◌≡◌, sym, ◌∙◌, ap}
use mathlib.Core.Logic.{⊎_elim}
use Prim.Native.Nat.{ℕ, zero, suc, ◌+◌, ◌*◌, ◌-◌, ◌/◌, ◌≤◌, ◌<◌, min}
use native.Mathlib.Nat.{le_trans, le_step, lt-suc_self, add-le-add, mul_comm, mul-add, add-mul, mul_left_comm, mul-zero, mul-le-mul_left, le_of_mul-le-mul_left, min-le_left, min-le_right, lt_of_mul-lt-mul_right, lt_of_le_of_lt, div-lt_iff_lt-mul, mul-sub}
use native.Mathlib.Omega.{arith}
use Rattle.laws.specs.Sum.{total}
use Rattle.laws.proofs.Order.{below_or_from}
use Rattle.laws.proofs.Sum.{total_add, total_mono}

-- At d, on the way from 0 to d + g, f is not below the line through its two ends.
abbrev pub Concave : (ℕ → ℕ) → Type 0
Concave f = (d g : ℕ) → g * f 0 + d * f (d + g) ≤ (d + g) * f d

-- A product with a sum, in the order in which the ends stand.
spread : (d g x : ℕ) → (d + g) * x ≡ g * x + d * x
spread d g x = omega (arith, add-mul d g x)

-- A constant.
pub concave_same : (a : ℕ) → Concave (λ d. a)
concave_same a d g = omega (arith, spread d g a)

-- The number itself.
pub concave_self : Concave (λ d. d)
concave_self d g = omega (arith, mul-zero g, mul_comm d (d + g))

-- A sum of two.
pub concave_add : (f h : ℕ → ℕ) → Concave f → Concave h → Concave (λ d. f d + h d)
concave_add f h first second d g =
    omega (
      arith,
      first d g,
      second d g,
      mul-add g (f 0) (h 0),
      mul-add d (f (d + g)) (h (d + g)),
      mul-add (d + g) (f d) (h d),
    )

-- A multiple.
pub concave_times : (k : ℕ) (f : ℕ → ℕ) → Concave f → Concave (λ d. k * f d)
concave_times k f it d g =
    omega (
      arith,
      mul-le-mul_left k (it d g),
      mul-add k (g * f 0) (d * f (d + g)),
      mul_left_comm g k (f 0),
      mul_left_comm d k (f (d + g)),
      mul_left_comm (d + g) k (f d),
    )

-- The lesser of two: it is one of them at d, and no larger than that one at the ends.
pub concave_min : (f h : ℕ → ℕ) → Concave f → Concave h → Concave (λ d. min (f d) (h d))
concave_min f h first second d g =
    ⊎_elim (λ (less : f d < h d). one_of f (λ x. min-le_left (f x) (h x)) (first d g) (omega arith))
    (λ (not_less : h d ≤ f d). one_of h (λ x. min-le_right (f x) (h x)) (second d g) (omega arith))
    (below_or_from (f d) (h d))
  where
    one_of : (l : ℕ → ℕ) → ((x : ℕ) → min (f x) (h x) ≤ l x) → g * l 0 + d * l (d + g) ≤ (d + g) * l d → min (f d) (h d) ≡ l d
        → g * min (f 0) (h 0) + d * min (f (d + g)) (h (d + g)) ≤ (d + g) * min (f d) (h d)
    one_of l within it here =
        rw here (le_trans (add-le-add (mul-le-mul_left g (within 0)) (mul-le-mul_left d (within (d + g)))) it)

-- A sum over places.
pub concave_total : (f : ℕ → ℕ → ℕ) (n : ℕ) → ((i : ℕ) → i < n → Concave (f i)) → Concave (λ d. total (λ i. f i d) n)
unfolding total
concave_total f zero each = concave_same 0
concave_total f (suc n) each =
    concave_add (λ d. total (λ i. f i d) n) (f n) (concave_total f n (λ i h. each i (le_step h))) (each n (lt-suc_self n))

-- A sum of multiples is the multiple of the sum.
pub total_times : (k : ℕ) (f : ℕ → ℕ) (n : ℕ) → total (λ i. k * f i) n ≡ k * total f n
unfolding total
total_times k f zero = sym (mul-zero k)
total_times k f (suc n) = omega (arith, total_times k f n, mul-add k (total f n) (f n))

-- A line is its own chord.
along : (p q d g : ℕ) → (d + g) * (p + q * d) ≡ g * p + d * (p + q * (d + g))
along p q d g =
    omega (
      arith,
      mul-add (d + g) p (q * d),
      mul-add d p (q * (d + g)),
      spread d g p,
      mul_left_comm (d + g) q d ∙ ap (λ (x : ℕ). q * x) (mul_comm (d + g) d) ∙ sym (mul_left_comm d q (d + g)),
    )

-- Not below a line at both ends, not below it between them.
pub above_line : (f : ℕ → ℕ) → Concave f → (p q e d : ℕ) → p ≤ f 0 → p + q * e ≤ f e → d ≤ e → p + q * d ≤ f d
above_line f it p q e zero start end inside = omega (arith, mul-zero q)
above_line f it p q e (suc d) start end inside =
    let whole : suc d + (e - suc d) ≡ e = omega arith in
    le_of_mul-le-mul_left {k = suc d + (e - suc d)}
    (rw along
    (le_trans
    (add-le-add (mul-le-mul_left (e - suc d) start) (mul-le-mul_left (suc d) (rw whole end)))
    (it (suc d) (e - suc d))))
    (omega arith)

-- No solution is skipped: a sum that fills m times the cap, of a part that stands and of terms a that rise by up to e, each to its own room,
-- as fast as m times the cap does at e, fills it all the way to e.
pub none_skipped : (m cap e stands n : ℕ) (a room : ℕ → ℕ) → m * cap ≤ stands + total a n
    → m * e ≤ stands + total a n - m * cap + total (λ i. min e (room i)) n
    → (d : ℕ) → d ≤ e → m * (cap + d) ≤ stands + total (λ i. a i + min d (room i)) n
none_skipped m cap e stands n a room start end d inside =
    rw (mul-add m cap d)
    (above_line f (concave_add (λ d. stands) (λ d. total (λ i. a i + min d (room i)) n) (concave_same stands) (concave_total (λ i d. a i + min d (room i)) n
    (λ i h. concave_add (λ d. a i) (λ d. min d (room i)) (concave_same (a i)) (concave_min (λ d. d) (λ d. room i) concave_self (concave_same (room i))))))
    (m * cap) m e d
    (omega (arith, start, total_mono a (λ i. a i + min 0 (room i)) n (λ i h. omega arith)))
    (omega (arith, total_add a (λ i. min e (room i)) n)) inside)
  where
    f : ℕ → ℕ
    f d = stands + total (λ i. a i + min d (room i)) n

-- Newton's rule for the largest such e falls: where e is too far, the steps that what is sure and the wide rooms pay for are fewer.
pub newton_falls : (sure wide e m : ℕ) → sure + wide * e < m * e → (wide < m) × (sure / (m - wide) < e)
newton_falls sure wide e m short =
    let fewer : wide < m = lt_of_mul-lt-mul_right e (lt_of_le_of_lt (omega arith) short) in (
      fewer,
      (div-lt_iff_lt-mul {k = m - wide} {x = sure} {y = e} (omega arith)).1 (omega (arith, mul-sub e m wide, mul_comm e m, mul_comm e wide)),
    )
