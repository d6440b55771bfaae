-- One processor: the verdict has its meaning, and the meaning fixes the verdict. Demand in t is at most the work of a busy length b and the
-- demand in t − b, so a sheet with no miss up to its busy length never misses.
use mathlib.Core.Path.{◌≡◌, sym, ap, ap₂}
use mathlib.Core.Logic.{⊎_elim}
use mathlib.Core.Option.{Option, none, some}
use Prim.Native.Nat.{ℕ, zero, suc, ◌+◌, ◌*◌, ◌-◌, ◌/◌, ◌≤◌, ◌<◌}
use native.Mathlib.Nat.{le_trans, add-mul, add-div_right, add-mul-div_right, lt-div-mul-add, mul-le-mul_right, le_of_eq}
use native.Mathlib.Omega.{arith}
use borrow.Author.Tests.{ltb-true, ltb-false, lt-ltb, le-ltb, eqb-true, eqb-false, eq-eqb, ne_eqb}
use lib.Dec.{ltb, eqb}
use Rattle.laws.specs.Search.{First, Nothing, Searched}
use Rattle.laws.proofs.Order.{below_or_from, div_mono}
use Rattle.laws.proofs.Choice.{pick_yes, pick_no}
use Rattle.laws.proofs.Sum.{total_mono, total_add}
use Rattle.laws.proofs.Search.{least_means, least-fixed}
use Rattle.model.specs.Sheet.{Sheet, Allowed}
use Rattle.model.specs.Demand.{row_demand, demand_of, demand, ceiling, busy_of, busy, busy_length, first_miss, Verdict, miss, fits, undecided, judged, verdict, Busy, Misses, Means}
use Rattle.model.proofs.Sheet.{periods_positive}

-- Before its deadline a row demands nothing; from it on, its jobs with deadlines within the length.
pub demand_before : (c d p t : ℕ) → t < d → row_demand c d p t ≡ 0
unfolding row_demand
demand_before c d p t h = pick_yes _ _ _ (lt-ltb t d h)

pub demand_from : (c d p t : ℕ) → d ≤ t → row_demand c d p t ≡ ((t - d) / p + 1) * c
unfolding row_demand
demand_from c d p t h = pick_no _ _ _ (le-ltb t d h)

-- ceil(b / p) periods cover b.
ceiling_covers : (b p : ℕ) → 1 ≤ p → b ≤ ceiling b p * p
unfolding ceiling
ceiling_covers b p positive = omega (arith, lt-div-mul-add {a = b + p - 1} positive)

-- Jobs due within x + b are at most those due within x and ceil(b / p) more.
jobs_later : (x b p : ℕ) → 1 ≤ p → (x + b) / p ≤ x / p + ceiling b p
jobs_later x b p positive =
    le_trans (div_mono p (add_le_add_left x (ceiling_covers b p positive))) (le_of_eq (add-mul-div_right x (ceiling b p) positive))
  where
    add_le_add_left : (x : ℕ) {y z : ℕ} → y ≤ z → x + y ≤ x + z
    add_le_add_left x h = omega arith

-- Jobs due less than b after the first deadline are at most ceil(b / p).
jobs_first : (x b p : ℕ) → 1 ≤ p → x < b → x / p + 1 ≤ ceiling b p
unfolding ceiling
jobs_first x b p positive h = le_trans (le_of_eq (sym (add-div_right x positive))) (div_mono p (omega arith))

-- A row's demand in t is at most its part of the busy work of b and its demand in t − b.
pub row_shift : (c d p b t : ℕ) → 1 ≤ p → b ≤ t → row_demand c d p t ≤ ceiling b p * c + row_demand c d p (t - b)
row_shift c d p b t positive within =
    ⊎_elim (λ (early : t < d). rw (demand_before c d p t early) (omega arith))
    (λ (due : d ≤ t).
    ⊎_elim
    (λ (first : t - b < d).
    rw (demand_from c d p t due, demand_before c d p (t - b) first)
    (omega (arith, mul-le-mul_right c (jobs_first (t - d) b p positive (omega arith)))))
    (λ (later : d ≤ t - b).
    let apart : t - d ≡ t - b - d + b = omega arith in
    let jobs : (t - d) / p + 1 ≤ ceiling b p + ((t - b - d) / p + 1) =
    rw apart (omega (arith, jobs_later (t - b - d) b p positive)) in
    rw (demand_from c d p t due, demand_from c d p (t - b) later)
    (le_trans (mul-le-mul_right c jobs) (le_of_eq (add-mul (ceiling b p) ((t - b - d) / p + 1) c))))
    (below_or_from (t - b) d))
    (below_or_from t d)

-- A length within h is one of the h lengths from 1.
within_range : {t h : ℕ} → t ≤ h → t < 1 + h
within_range within = omega arith

-- The first length found to miss is the shortest that does.
first_misses : (s : Sheet) (h t : ℕ) → First (λ t. ltb t (demand s t)) 1 h t → Misses s h t
first_misses s h t first =
    let inside : t < 1 + h = first.inside in
    record {
      positive = first.from;
      within = omega arith;
      over = ltb-true _ _ first.passes;
      lowest = λ u from below. ltb-false _ _ (first.lowest u from below);
    }

-- Where no length was found to miss, none does.
nothing_misses : (s : Sheet) (h : ℕ) → Nothing (λ t. ltb t (demand s t)) 1 h → (t : ℕ) → 1 ≤ t → t ≤ h → demand s t ≤ t
nothing_misses s h missed t from upto = ltb-false _ _ (missed t from (within_range upto))

-- The first length found equal to its busy work is the busy length.
first_busy : (s : Sheet) (h b : ℕ) → First (λ t. eqb t (busy s t)) 1 h b → Busy s b × (b ≤ h)
first_busy s h b first =
    let inside : b < 1 + h = first.inside in (
      record {
        positive = first.from;
        equal = eqb-true _ _ first.passes;
        lowest = λ t from below. eqb-false _ _ (first.lowest t from below);
      },
      omega arith,
    )

module _ (s : Sheet) (positive : (i : ℕ) → i < s.rows → 1 ≤ s.period i) where
  -- The sheet's demand in t is at most the busy work of b and the demand in t − b.
  pub demand_shift : (b t : ℕ) → b ≤ t → demand s t ≤ busy s b + demand s (t - b)
  unfolding demand demand_of busy busy_of
  demand_shift b t within =
      le_trans
      (total_mono (demand_of s t) (λ i. busy_of s b i + demand_of s (t - b) i) s.rows
      (λ i h. row_shift (s.cost i) (s.deadline i) (s.period i) b t (positive i h) within))
      (le_of_eq (total_add (busy_of s b) (demand_of s (t - b)) s.rows))

  -- No miss up to a length equal to its own busy work means no miss at all: b is taken off a longer length until none is left.
  pub never_misses : (b : ℕ) → 1 ≤ b → b ≡ busy s b → ((t : ℕ) → 1 ≤ t → t ≤ b → demand s t ≤ t) → (t : ℕ) → 1 ≤ t → demand s t ≤ t
  never_misses b positive_length own early t from = up_to t t from (omega arith)
    where
      up_to : (most t : ℕ) → 1 ≤ t → t ≤ most → demand s t ≤ t
      up_to zero t from below = absurd (omega arith)
      up_to (suc most) t from below =
          ⊎_elim
          (λ (long : b < t).
          omega (arith, demand_shift b t (omega arith), up_to most (t - b) (omega arith) (omega arith)))
          (λ (short : t ≤ b). early t from short) (below_or_from b t)

  -- The verdict means what document 01 says of it.
  pub verdict_means : (h : ℕ) → Means s h (verdict s h)
  unfolding verdict first_miss busy_length judged
  verdict_means h =
      judged_means (first_miss s h) (busy_length s h) (least_means (λ t. ltb t (demand s t)) 1 h) (least_means (λ t. eqb t (busy s t)) 1 h)
    where
      judged_means : (r q : Option ℕ) → Searched (λ t. ltb t (demand s t)) 1 h r → Searched (λ t. eqb t (busy s t)) 1 h q
          → Means s h (judged r q)
      judged_means (some t) q missed filled = first_misses s h t missed
      judged_means none (some b) missed filled =
          let length : Busy s b × (b ≤ h) = first_busy s h b filled in
          let inside : b ≤ h = length.1 in
          record {
            busy-length = length.0;
            within = inside;
            never_over = never_misses b length.0.positive length.0.equal
                (λ t from upto. nothing_misses s h missed t from (omega arith));
          }
      judged_means none none missed filled =
          record { no_miss = nothing_misses s h missed; not-busy = λ t from upto own. eqb-false _ _ (filled t from (omega arith)) own }

-- The meaning fixes the verdict.
pub verdict-fixed : (s : Sheet) (h : ℕ) (v : Verdict) → Means s h v → verdict s h ≡ v
unfolding verdict first_miss busy_length judged
verdict-fixed s h (miss t) m =
    ap (λ (r : Option ℕ). judged r (busy_length s h))
    (least-fixed (λ t. ltb t (demand s t)) 1 h (some t) (record {
      passes = lt-ltb _ _ m.over;
      from = m.positive;
      inside = within_range m.within;
      lowest = λ u from below. le-ltb _ _ (m.lowest u from below);
    }))
verdict-fixed s h (fits b) m =
    ap₂ judged
    (least-fixed (λ t. ltb t (demand s t)) 1 h none (λ t from below. le-ltb _ _ (m.never_over t from)))
    (least-fixed (λ t. eqb t (busy s t)) 1 h (some b) (record {
      passes = eq-eqb _ _ m.busy-length.equal;
      from = m.busy-length.positive;
      inside = within_range m.within;
      lowest = λ t from below. ne_eqb _ _ (m.busy-length.lowest t from below);
    }))
verdict-fixed s h undecided m =
    ap₂ judged
    (least-fixed (λ t. ltb t (demand s t)) 1 h none (λ t from below. le-ltb _ _ (m.no_miss t from (omega arith))))
    (least-fixed (λ t. eqb t (busy s t)) 1 h none (λ t from below. ne_eqb _ _ (m.not-busy t from (omega arith))))

-- On an allowed sheet every verdict means what it says.
pub allowed_verdict_means : (s : Sheet) → Allowed s → (h : ℕ) → Means s h (verdict s h)
allowed_verdict_means s allowed = verdict_means s (periods_positive s allowed)
