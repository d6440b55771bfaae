-- A sum along an injection of places is no larger: where the last place goes is left out for those before it, so no term is used twice.
use mathlib.Core.Path.{◌≡◌, refl, ap}
use mathlib.Core.Option.{Option, none, some}
use mathlib.Core.List.{List}
use Prim.Native.Nat.{ℕ, zero, suc, ◌+◌, ◌≤◌, ◌<◌}
use native.Mathlib.Nat.{le_step, lt-suc_self}
use native.Mathlib.Decide.{ℕ_discrete}
use native.Mathlib.Omega.{arith}
use borrow.Author.Tests.{eqb-true, eq-eqb, ne_eqb}
use lib.Dec.{eqb}
use lib.ListN.{get_or}
use Rattle.laws.specs.Sum.{total, unless}
use Rattle.laws.specs.Search.{least, Searched}
use Rattle.laws.specs.Along.{Injects, held_at, spread}
use Rattle.laws.proofs.Sum.{unless_here, unless_other, total-unless}
use Rattle.laws.proofs.Search.{least_means, least-fixed}

-- A sum is no larger than one where each of its terms has a larger one of its own.
pub total-along : (e : ℕ → ℕ) (n N : ℕ) (f g : ℕ → ℕ) → Injects e n N → ((i : ℕ) → i < n → f i ≤ g (e i)) → total f n ≤ total g N
unfolding total
total-along e zero N f g places each = omega arith
total-along e (suc n) N f g places each =
    let fewer : Injects e n N =
    record { inside = λ i h. places.inside i (le_step h); apart = λ i j h h'. places.apart i j (le_step h) (le_step h') } in
    let rest : total f n ≤ total (unless (e n) g) N =
    total-along e n N f (unless (e n) g) fewer
    (λ i h.
    rw (unless_other (e n) g (e i) (λ same. let last : i ≡ n = places.apart i n (le_step h) (lt-suc_self n) same in absurd (omega arith)))
    (each i (le_step h))) in
    omega (arith, each n (lt-suc_self n), total-unless g (e n) N (places.inside n (lt-suc_self n)))

-- The same over every other place: the place left out goes to the one left out there.
pub unless-along : (e : ℕ → ℕ) (n N k : ℕ) (f g : ℕ → ℕ) → Injects e n N → k < n → ((i : ℕ) → i < n → f i ≤ g (e i))
    → total (unless k f) n ≤ total (unless (e k) g) N
unless-along e n N k f g places here each =
    total-along e n N (unless k f) (unless (e k) g) places (λ i h. at_place i h (ℕ_discrete i k))
  where
    at_place : (i : ℕ) → i < n → Dec (i ≡ k) → unless k f i ≤ unless (e k) g (e i)
    at_place i h (yes left_out) = rw (left_out, unless_here k f) (omega arith)
    at_place i h (no other) =
        rw (unless_other k f i other, unless_other (e k) g (e i) (λ same. other (places.apart i k h here same))) (each i h)

-- At the place that k goes to stands what stood at k.
pub spread_at : (e : ℕ → ℕ) (n N : ℕ) (Q : List ℕ) (k : ℕ) → Injects e n N → k < n → spread e n Q (e k) ≡ get_or Q k 0
unfolding spread held_at
spread_at e n N Q k places here =
    ap (held_at Q)
    (least-fixed (λ i. eqb (e i) (e k)) 0 n (some k)
    (record {
      passes = eq-eqb (e k) (e k) refl;
      from = omega arith;
      inside = omega arith;
      lowest = λ i from below.
          ne_eqb (e i) (e k) (λ same. let one : i ≡ k = places.apart i k (omega arith) here same in absurd (omega arith));
    }))

-- What holds of each place that one goes to with what stood there, and of every place with 0, holds of every place.
pub spread_each : (e : ℕ → ℕ) (n : ℕ) (Q : List ℕ) (P : ℕ → ℕ → Type 0) → ((k : ℕ) → k < n → P (e k) (get_or Q k 0)) → ((j : ℕ) → P j 0)
    → (j : ℕ) → P j (spread e n Q j)
unfolding spread held_at
spread_each e n Q P at_each at_none j = found (least (λ i. eqb (e i) j) 0 n) (least_means (λ i. eqb (e i) j) 0 n)
  where
    found : (r : Option ℕ) → Searched (λ i. eqb (e i) j) 0 n r → P j (held_at Q r)
    found none h = at_none j
    found (some k) h =
        let inside : k < 0 + n = h.inside in
        rw (eqb-true (e k) j h.passes) at (at_each k (omega arith))
