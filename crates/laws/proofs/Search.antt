-- A search gives what it says: the first that passes, and none only where none passes. By induction on the length of the range.
use mathlib.Core.Path.{◌≡◌, refl, ap, ap₂}
use mathlib.Core.Bool.{Bool, true, false}
use mathlib.Core.Logic.{⊎_elim}
use mathlib.Core.Option.{Option, none, some}
use Prim.Native.Nat.{ℕ, zero, suc, ◌+◌, ◌≤◌, ◌<◌}
use native.Mathlib.Nat.{le_refl, le_antisymm, eq-or-lt_of_le}
use native.Mathlib.Omega.{arith}
use Rattle.laws.specs.Choice.{pick}
use Rattle.laws.specs.Search.{least, First, Searched}
use Rattle.laws.proofs.Order.{below_or_from}
use Rattle.laws.proofs.Choice.{never_both}

-- What failed at a and from a + 1 up to some end failed from a on.
failed_from : (test : ℕ → Bool) (a end : ℕ) → test a ≡ false → ((y : ℕ) → suc a ≤ y → y < end → test y ≡ false)
    → (y : ℕ) → a ≤ y → y < end → test y ≡ false
failed_from test a end here later y from below =
    ⊎_elim (λ (first : a ≡ y). rw first at here) (λ (after : a < y). later y after below) (eq-or-lt_of_le from)

-- A search over one candidate more, in front.
one_more : (test : ℕ → Bool) (a n : ℕ) (later : Option ℕ) → Searched test (suc a) n later
    → (b : Bool) → test a ≡ b → Searched test a (suc n) (pick b (some a) later)
one_more test a n later h true passed =
    record { passes = passed; from = le_refl a; inside = omega arith; lowest = λ y from below. absurd (omega arith) }
one_more test a n none h false failed =
    failed_from test a (a + suc n) failed (λ y from below. h y from (omega arith))
one_more test a n (some x) h false failed =
    let inside : x < suc a + n = h.inside in
    let from : suc a ≤ x = h.from in
    record {
      passes = h.passes;
      from = omega arith;
      inside = omega arith;
      lowest = failed_from test a x failed h.lowest;
    }

-- The search's answer is what the search means.
pub least_means : (test : ℕ → Bool) (a n : ℕ) → Searched test a n (least test a n)
unfolding least
least_means test a zero = λ y from below. absurd (omega arith)
least_means test a (suc n) = one_more test a n (least test (suc a) n) (least_means test (suc a) n) (test a) refl

-- Two answers with that meaning are the same.
pub searched_unique : (test : ℕ → Bool) (a n : ℕ) (r q : Option ℕ) → Searched test a n r → Searched test a n q → r ≡ q
searched_unique test a n none none h k = refl
searched_unique test a n none (some y) h k = absurd (never_both k.passes (h y k.from k.inside))
searched_unique test a n (some x) none h k = absurd (never_both h.passes (k x h.from h.inside))
searched_unique test a n (some x) (some y) h k =
    ap {B = Option ℕ} some (le_antisymm (not_after x y h k) (not_after y x k h))
  where
    not_after : (x y : ℕ) → First test a n x → First test a n y → x ≤ y
    not_after x y h k =
        ⊎_elim (λ (after : y < x). absurd (never_both k.passes (h.lowest y k.from after)))
        (λ (not_after : x ≤ y). not_after) (below_or_from y x)

-- The meaning fixes the answer.
pub least-fixed : (test : ℕ → Bool) (a n : ℕ) (r : Option ℕ) → Searched test a n r → least test a n ≡ r
least-fixed test a n r h = searched_unique test a n (least test a n) r (least_means test a n) h

-- Tests that agree in the range find the same.
pub least-same : (f g : ℕ → Bool) (a n : ℕ) → ((x : ℕ) → a ≤ x → x < a + n → f x ≡ g x) → least f a n ≡ least g a n
unfolding least
least-same f g a zero each = refl
least-same f g a (suc n) each =
    ap₂ (λ (passes : Bool) (later : Option ℕ). pick passes (some a) later) (each a (le_refl a) (omega arith))
    (least-same f g (suc a) n (λ x from below. each x (omega arith) (omega arith)))
