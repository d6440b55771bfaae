-- The least fixed value of a function that keeps order: it exists below any number that the function does not raise, and climbing
-- reaches it, since no fixed value is passed on the way.
use mathlib.Core.Path.{◌≡◌, refl, sym}
use mathlib.Core.Bool.{Bool, true, false}
use mathlib.Core.Logic.{⊎_elim}
use mathlib.Core.Option.{Option, none, some}
use Prim.Native.Nat.{ℕ, zero, suc, ◌+◌, ◌-◌, ◌≤◌, ◌<◌}
use native.Mathlib.Nat.{le_refl, le_trans, eq-or-lt_of_le}
use native.Mathlib.Omega.{arith}
use borrow.Author.Tests.{eqb-true, eqb-false, ne_eqb, eq-eqb, ltb-true, ltb-false}
use lib.Dec.{ltb}
use Rattle.laws.specs.Choice.{pick, Better}
use Rattle.laws.specs.Search.{least, Searched}
use Rattle.laws.specs.Climb.{Monotone, fixed, Passed, climb}
use Rattle.laws.proofs.Order.{below_or_from}
use Rattle.laws.proofs.Search.{least_means, least-fixed}

-- A fixed value from x to y.
pub record FixedWithin (f : ℕ → ℕ) (x y : ℕ) : Type 0 where
  pub at : ℕ
  pub from : x ≤ at
  pub upto : at ≤ y
  pub own : at ≡ f at

-- Fixed from a number on means fixed from any number below it on.
widened : {f : ℕ → ℕ} {x z y : ℕ} → x ≤ z → FixedWithin f z y → FixedWithin f x y
widened low found = record { at = found.at; from = le_trans low found.from; upto = found.upto; own = found.own }

-- From x, which is not above its value, up to y, which is not below its own, there is a fixed value.
between : (f : ℕ → ℕ) → Monotone f → (y : ℕ) → f y ≤ y → (left x : ℕ) → y < x + left → x ≤ y → x ≤ f x → FixedWithin f x y
between f mono y stays zero x room low rises = absurd (omega arith)
between f mono y stays (suc left) x room low rises =
    ⊎_elim (λ (here : x ≡ f x). record { at = x; from = le_refl x; upto = low; own = here })
    (λ (higher : x < f x).
    widened rises
    (between f mono y stays left (f x) (omega arith) (le_trans (mono x y low) stays) (mono x (f x) rises)))
    (eq-or-lt_of_le rises)

-- If some y in the range is not raised, the least fixed value exists and is at most y.
pub fixed_below : (f : ℕ → ℕ) → Monotone f → (a n y : ℕ) → a ≤ f a → a ≤ y → y < a + n → f y ≤ y
    → Better (least (fixed f) a n) (some y)
fixed_below f mono a n y rises from inside stays =
    lies (least (fixed f) a n) (least_means (fixed f) a n) (between f mono y stays (suc y) a (omega arith) from rises)
  where
    lies : (r : Option ℕ) → Searched (fixed f) a n r → FixedWithin f a y → Better r (some y)
    lies none h found =
        let upto : found.at ≤ y = found.upto in
        eqb-false _ _ (h found.at found.from (omega arith)) found.own
    lies (some x) h found =
        ⊎_elim
        (λ (above : y < x).
        let upto : found.at ≤ y = found.upto in
        absurd (eqb-false _ _ (h.lowest found.at found.from (omega arith)) found.own))
        (λ (within : x ≤ y). within) (below_or_from y x)

-- Moving from x, which is not fixed, to its value passes no fixed value.
pub climb-passes : (f : ℕ → ℕ) → Monotone f → (a x : ℕ) → Passed f a x → (x ≡ f x → ⊥) → Passed f a (f x)
climb-passes f mono a x passed moves z from below own =
    ⊎_elim (λ (before : z < x). passed z from before own)
    (λ (after : x ≤ z).
    ⊎_elim (λ (here : x ≡ z). moves (rw (← here) at own)) (λ (higher : x < z). let raised : f x ≤ f z = mono x z after in omega arith)
    (eq-or-lt_of_le after))
    (below_or_from z x)

-- A climb in progress: from a, x has been reached; it is not above its value, and no fixed value was passed.
pub record Climbed (f : ℕ → ℕ) (a x : ℕ) : Type 0 where
  pub from : a ≤ x
  pub rises : x ≤ f x
  pub passed : Passed f a x

-- The start, which its value is not below.
pub climbed_first : (f : ℕ → ℕ) (a : ℕ) → a ≤ f a → Climbed f a a
climbed_first f a rises = record { from = le_refl a; rises = rises; passed = λ z from below own. absurd (omega arith) }

-- One value further.
pub climbed_more : (f : ℕ → ℕ) → Monotone f → (a x : ℕ) → Climbed f a x → (x ≡ f x → ⊥) → Climbed f a (f x)
climbed_more f mono a x climbed moves =
    record {
      from = le_trans climbed.from climbed.rises;
      rises = mono x (f x) climbed.rises;
      passed = climb-passes f mono a x climbed.passed moves;
    }

-- Over a stretch on which every number is below its value: as far as it goes, its end included.
pub climbed_stretch : (f : ℕ → ℕ) → Monotone f → (a x r : ℕ) → Climbed f a x → x < r → ((z : ℕ) → x ≤ z → z < r → z < f z) → Climbed f a r
climbed_stretch f mono a x r climbed longer below =
    let last : r - 1 < f (r - 1) = below (r - 1) (omega arith) (omega arith) in
    let kept : f (r - 1) ≤ f r = mono (r - 1) r (omega arith) in
    record {
      from = le_trans climbed.from (omega arith);
      rises = omega arith;
      passed = λ z from before own.
          ⊎_elim (λ (earlier : z < x). climbed.passed z from earlier own)
          (λ (later : x ≤ z). let raised : z < f z = below z later before in omega arith)
          (below_or_from z x);
    }

-- A number reached that is its own value is the least.
pub climbed_found : (f : ℕ → ℕ) (a n x : ℕ) → Climbed f a x → x ≡ f x → x < a + n → least (fixed f) a n ≡ some x
climbed_found f a n x climbed own inside =
    least-fixed (fixed f) a n (some x)
    (record {
      passes = eq-eqb x (f x) own;
      from = climbed.from;
      inside = inside;
      lowest = λ z from below. ne_eqb z (f z) (climbed.passed z from below);
    })

-- Past the range there is none in it.
pub climbed_past : (f : ℕ → ℕ) (a n x : ℕ) → Climbed f a x → a + n ≤ x → least (fixed f) a n ≡ none
climbed_past f a n x climbed past =
    least-fixed (fixed f) a n none (λ z from below. ne_eqb z (f z) (climbed.passed z from (le_trans below past)))

-- One value of the chain: above the top, fixed, or on to the next.
one_value : (f : ℕ → ℕ) (a top x : ℕ) → Climbed f a x → (higher : Option ℕ)
    → ((x ≡ f x → ⊥) → higher ≡ least (fixed f) a (top + 1 - a)) → (over : Bool) → ltb top x ≡ over → (own : Bool) → fixed f x ≡ own
    → pick over none (pick own (some x) higher) ≡ least (fixed f) a (top + 1 - a)
one_value f a top x climbed higher next true is_over own is_own =
    let above : top < x = ltb-true top x is_over in
    sym (climbed_past f a (top + 1 - a) x climbed (omega (arith, climbed.from)))
one_value f a top x climbed higher next false not_over true is_own =
    let within : x ≤ top = ltb-false top x not_over in
    sym (climbed_found f a (top + 1 - a) x climbed (eqb-true x (f x) is_own) (omega (arith, climbed.from)))
one_value f a top x climbed higher next false not_over false not_own = next (eqb-false x (f x) not_own)

-- A climb in progress, with values enough to pass the top, gives what the search gives.
climb_goes_on : (f : ℕ → ℕ) → Monotone f → (a top steps x : ℕ) → Climbed f a x → top < x + steps
    → climb f top steps x ≡ least (fixed f) a (top + 1 - a)
unfolding climb
climb_goes_on f mono a top zero x climbed room =
    sym (climbed_past f a (top + 1 - a) x climbed (omega (arith, climbed.from)))
climb_goes_on f mono a top (suc steps) x climbed room =
    one_value f a top x climbed (climb f top steps (f x))
    (λ moves. climb_goes_on f mono a top steps (f x) (climbed_more f mono a x climbed moves) (omega (arith, climbed.rises)))
    (ltb top x) refl (fixed f x) refl

-- Climbing from a reaches the least fixed value from a to the top, and none where there is none.
pub climb_reaches : (f : ℕ → ℕ) → Monotone f → (a top : ℕ) → a ≤ f a
    → climb f top (top + 1 - a) a ≡ least (fixed f) a (top + 1 - a)
climb_reaches f mono a top rises = climb_goes_on f mono a top (top + 1 - a) a (climbed_first f a rises) (omega arith)
