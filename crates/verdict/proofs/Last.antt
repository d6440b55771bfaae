-- How far to look. No miss up to the busy length is no miss at all, so the busy length, or else the horizon, is the last length to look
-- at, and with no miss up to it the busy length decides.
use mathlib.Core.Path.{◌≡◌, refl, sym, ◌∙◌, ap}
use mathlib.Core.Option.{Option, none, some}
use Prim.Native.Nat.{ℕ, ◌+◌, ◌≤◌, ◌<◌}
use native.Mathlib.Nat.{le_refl}
use native.Mathlib.Omega.{arith}
use borrow.Author.Tests.{le-ltb, eqb-true}
use lib.Dec.{ltb, eqb}
use Rattle.laws.specs.Choice.{or_else}
use Rattle.laws.specs.Search.{Searched}
use Rattle.laws.proofs.Search.{least_means, least-fixed}
use Rattle.model.specs.Sheet.{Sheet, Allowed}
use Rattle.model.specs.Demand.{demand, busy, busy_length, first_miss, judged, verdict}
use Rattle.model.proofs.Sheet.{periods_positive}
use Rattle.model.proofs.Demand.{never_misses}
use Rattle.rows.specs.Words.{Found}
use Rattle.rows.specs.Words.{found_of}
use Rattle.verdict.specs.OneProcessor.{outcome_of}
use Rattle.verdict.specs.Inner.{furthest, without_miss}

-- The last length to look at, as the code finds it.
furthest_found : (b : Option ℕ) (h : ℕ) → furthest (found_of b) h ≡ or_else b h
unfolding furthest found_of
furthest_found none h = refl
furthest_found (some b) h = refl

-- The busy length, or else the horizon, lies from 1 to the horizon.
last_within : (s : Sheet) (h : ℕ) → 1 ≤ h → (1 ≤ or_else (busy_length s h) h) × (or_else (busy_length s h) h ≤ h)
unfolding busy_length
last_within s h some-length = found (busy_length s h) (least_means (λ t. eqb t (busy s t)) 1 h)
  where
    found : (b : Option ℕ) → Searched (λ t. eqb t (busy s t)) 1 h b → (1 ≤ or_else b h) × (or_else b h ≤ h)
    found none searched = (some-length, le_refl h)
    found (some b) searched = let inside : b < 1 + h = searched.inside in (searched.from, omega arith)

-- With no miss the busy length decides, in the code's words too.
judged_found : (b : Option ℕ) → outcome_of (judged none b) ≡ without_miss (found_of b)
unfolding outcome_of judged without_miss found_of
judged_found none = refl
judged_found (some b) = refl

module _ (s : Sheet) (positive : (i : ℕ) → i < s.rows → 1 ≤ s.period i) where
  -- No miss up to the busy length is no miss.
  clean : (h : ℕ) (b : Option ℕ) → Searched (λ t. eqb t (busy s t)) 1 h b → ((u : ℕ) → 1 ≤ u → u ≤ or_else b h → demand s u ≤ u)
      → (u : ℕ) → 1 ≤ u → u ≤ h → demand s u ≤ u
  clean h none searched early u from upto = early u from upto
  clean h (some b) searched early u from upto = never_misses s positive b searched.from (eqb-true _ _ searched.passes) early u from

  -- With no miss up to the busy length, or else the horizon, the busy length decides.
  clean_verdict : (h : ℕ) → ((u : ℕ) → 1 ≤ u → u ≤ or_else (busy_length s h) h → demand s u ≤ u)
      → verdict s h ≡ judged none (busy_length s h)
  unfolding verdict first_miss busy_length
  clean_verdict h early =
      ap (λ (r : Option ℕ). judged r (busy_length s h))
      (least-fixed (λ t. ltb t (demand s t)) 1 h none
      (λ u from below. le-ltb _ _ (clean h (busy_length s h) (least_means (λ t. eqb t (busy s t)) 1 h) early u from (omega arith))))

module _ (s : Sheet) (horizon : ℕ) (found : Found) (climbed : found ≡ found_of (busy_length s horizon)) where
  -- The last length to look at is the busy length, or else the horizon.
  last : furthest found horizon ≡ or_else (busy_length s horizon) horizon
  last = ap (λ (b : Found). furthest b horizon) climbed ∙ furthest_found _ _

  -- It lies from 1 to the horizon.
  pub last_bounds : 1 ≤ horizon → (1 ≤ furthest found horizon) × (furthest found horizon ≤ horizon)
  last_bounds from_one = rw last (last_within s horizon from_one)

  -- With no miss up to it the busy length decides.
  pub decided : Allowed s → ((u : ℕ) → 1 ≤ u → u ≤ furthest found horizon → demand s u ≤ u)
      → without_miss found ≡ outcome_of (verdict s horizon)
  decided sizes early =
      ap without_miss climbed
      ∙ sym (judged_found _)
      ∙ sym (ap outcome_of (clean_verdict _ (periods_positive s sizes) horizon (rw last at early)))
