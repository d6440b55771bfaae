-- Backward steps. Demand keeps order, so a demand of s in a length of s or more clears every length from s to it, and what was noted of a
-- group in a longer length is not too little in a shorter one.
use mathlib.Core.Path.{◌≡◌, refl, sym, ◌∙◌, ap}
use mathlib.Core.List.{List}
use mathlib.Core.Logic.{⊎_elim}
use Prim.Native.Nat.{ℕ, zero, suc, ◌+◌, ◌*◌, ◌-◌, ◌/◌, ◌≤◌, ◌<◌, min}
use native.Mathlib.Nat.{le_trans, le_of_eq, add-le-add, le_of_suc-le-suc, mul-le-mul_right}
use native.Mathlib.Decide.{ℕ_discrete}
use native.Mathlib.Omega.{arith}
use lib.ListN.{length, set, length-set, replicate}
use lib.Seq.{get_or-set_same, get_or-set_other}
use Rattle.laws.specs.Sum.{total}
use Rattle.laws.specs.Climb.{Monotone}
use Rattle.laws.proofs.Order.{below_or_from, div_mono}
use Rattle.laws.proofs.Sum.{total_step, total_mono, total-within}
use Rattle.model.specs.Sheet.{Sheet, Allowed}
use Rattle.model.specs.Demand.{row_demand, demand_of, demand}
use Rattle.model.proofs.Demand.{demand_before, demand_from}
use Rattle.verdict.specs.declared.Note.{Note}
use Rattle.verdict.specs.Inner.{Clear, group_demand, note_of, Noted}
use Rattle.verdict.proofs.Sound.{demand_small}

-- A longer length has no smaller demand: of a row, of a group, of the sheet.
row_mono : (c d p t u : ℕ) → t ≤ u → row_demand c d p t ≤ row_demand c d p u
row_mono c d p t u longer =
    ⊎_elim (λ (early : t < d). rw (demand_before c d p t early) (omega arith))
    (λ (due : d ≤ t).
    let jobs : (t - d) / p ≤ (u - d) / p = div_mono p (omega arith) in
    rw (demand_from c d p t due, demand_from c d p u (omega arith)) (mul-le-mul_right c (omega arith)))
    (below_or_from t d)

group_mono : (s : Sheet) (g t u : ℕ) → t ≤ u → group_demand s t g ≤ group_demand s u g
unfolding group_demand demand_of
group_mono s g t u longer = total_mono _ _ (min 4 (s.rows - 4 * g)) (λ j here. row_mono _ _ _ t u longer)

demand_mono : (s : Sheet) → Monotone (demand s)
unfolding demand demand_of
demand_mono s t u longer = total_mono _ _ s.rows (λ i here. row_mono _ _ _ t u longer)

-- One step back: what is at least the demand in a length, and at most the length, clears every length from it on.
pub step_back : (s : Sheet) (length high sum : ℕ) → Clear s length high → demand s length ≤ sum → sum ≤ length → Clear s (sum - 1) high
step_back s length high sum clear enough fits u from upto =
    ⊎_elim (λ (behind : length < u). clear u behind upto)
    (λ (within : u ≤ length). omega (arith, demand_mono s u length within)) (below_or_from length u)

-- What is clear up to a length, and clear from there on, is clear.
pub clear_on : (s : Sheet) (low middle high : ℕ) → Clear s low middle → Clear s middle high → Clear s low high
clear_on s low middle high first second u from upto =
    ⊎_elim (λ (behind : middle < u). second u behind upto) (λ (within : u ≤ middle). first u from within) (below_or_from middle u)

-- A sum over places goes on behind them.
total_behind : (f : ℕ → ℕ) (a b : ℕ) → total f (a + b) ≡ total f a + total (λ j. f (a + j)) b
unfolding total
total_behind f a zero = let same : a + 0 ≡ a = omega arith in rw same (omega arith)
total_behind f a (suc b) =
    let one_more : a + suc b ≡ a + b + 1 = omega arith in
    rw (one_more, total_step f (a + b)) (omega (arith, total_behind f a b))

-- The first groups summed up: at least their demand, and small.
pub record Summed (s : Sheet) (t group sum : ℕ) : Type 0 where
  pub few : group ≤ 16
  pub enough : total (demand_of s t) (min (4 * group) s.rows) ≤ sum
  pub small : sum ≤ group * 67_108_864

-- None of them.
pub summed_none : (s : Sheet) (t : ℕ) → Summed s t 0 0
unfolding total
summed_none s t =
    let none_there : min (4 * 0) s.rows ≡ 0 = omega arith in
    record { few = omega arith; enough = rw none_there (omega arith); small = omega arith }

-- One group more.
pub summed_more : (s : Sheet) (t group sum part : ℕ) → s.rows ≤ 64 → 4 * group < s.rows → Summed s t group sum
    → group_demand s t group ≤ part → part ≤ 67_108_864 → Summed s t (group + 1) (sum + part)
unfolding group_demand
summed_more s t group sum part rows some summed enough small =
    let before : min (4 * group) s.rows ≡ 4 * group = omega arith in
    let with_it : min (4 * (group + 1)) s.rows ≡ 4 * group + min 4 (s.rows - 4 * group) = omega arith in
    let first : total (demand_of s t) (4 * group) ≤ sum = rw before at summed.enough in
    let most : sum ≤ group * 67_108_864 = summed.small in
    record {
      few = omega arith;
      enough = rw (with_it, total_behind (demand_of s t) (4 * group) (min 4 (s.rows - 4 * group))) (add-le-add first enough);
      small = omega arith;
    }

-- All of them: at least the sheet's demand.
pub summed_all : (s : Sheet) (t group sum : ℕ) → s.rows ≤ 4 * group → Summed s t group sum → demand s t ≤ sum
unfolding demand
summed_all s t group sum all summed =
    let whole : min (4 * group) s.rows ≡ s.rows = omega arith in
    rw whole at summed.enough

-- Four rows of an allowed sheet demand little in a length that no horizon exceeds.
pub group_small : (s : Sheet) → Allowed s → (t : ℕ) → t ≤ 16_777_216 → (g : ℕ) → group_demand s t g ≤ 67_108_864
unfolding group_demand
group_small s sizes t within g =
    omega (arith, total-within _ 16_777_216 (min 4 (s.rows - 4 * g)) (λ j here. demand_small s sizes t within (4 * g + j) (omega arith)))

-- A group looked at, four rows or as many as are left of those counted, shows its demand.
pub group_shown : (s : Sheet) (t g : ℕ) {count left size sum : ℕ} → count ≡ s.rows → left ≡ count - 4 * g → size ≡ min 4 left
    → sum ≡ total (λ j. demand_of s t (4 * g + j)) size → sum ≡ group_demand s t g
unfolding group_demand
group_shown s t g counted is_left is_size is_sum = rw (is_left, counted) at (rw is_size at is_sum)

-- What holds of every note holds after one is made anew, if it holds of the new one.
anew : (holds : ℕ → Note → Type 0) (notes : List Note) (g : ℕ) (note : Note) → g < length notes → holds g note
    → ((k : ℕ) → k < 16 → holds k (note_of notes k)) → (k : ℕ) → k < 16 → holds k (note_of (set notes g note) k)
anew holds notes g note room new each k here = decided (ℕ_discrete k g)
  where
    decided : Dec (k ≡ g) → holds k (note_of (set notes g note) k)
    decided (yes same) = rw (same, get_or-set_same notes g note _ room) new
    decided (no other) = rw (get_or-set_other notes g k note _ other) (each k here)

-- Every place of a list of one note holds it.
alike : (n : ℕ) (note : Note) (k : ℕ) → k < n → note ≡ note_of (replicate n note) k
alike zero note k here = absurd (omega arith)
alike (suc n) note zero here = refl
alike (suc n) note (suc k) here = alike n note k (le_of_suc-le-suc here)

-- Notes hold in a shorter length too.
pub notes_shorter : (s : Sheet) (t u : ℕ) (notes : List Note) → u ≤ t → Noted s t notes → Noted s u notes
notes_shorter s t u notes shorter noted =
    record { room = noted.room; enough = λ g here. le_trans (group_mono s g u t shorter) (noted.enough g here); small = noted.small }

module _ (s : Sheet) (sizes : Allowed s) (t : ℕ) (within : t ≤ 16_777_216) where
  -- With nothing noted yet the most that four rows can demand stands for each group.
  pub notes_first : (note : Note) → note.demand ≡ 67_108_864 → Noted s t (replicate 16 note)
  notes_first note most =
      let same : (g : ℕ) → g < 16 → (note_of (replicate 16 note) g).demand ≡ 67_108_864 =
      λ g here. ap (λ (n : Note). n.demand) (sym (alike 16 note g here)) ∙ most in
      record {
        room = refl;
        enough = λ g here. le_trans (group_small s sizes t within g) (le_of_eq (sym (same g here)));
        small = λ g here. le_of_eq (same g here);
      }

  -- They hold with a group noted anew.
  pub notes_anew : (notes : List Note) (g : ℕ) (note : Note) → g < 16 → note.demand ≡ group_demand s t g
      → Noted s t notes → Noted s t (set notes g note)
  notes_anew notes g note here same noted =
      let room : g < length notes = rw noted.room here in
      record {
        room = length-set notes g note ∙ noted.room;
        enough = anew (λ k n. group_demand s t k ≤ n.demand) notes g note room (le_of_eq (sym same)) noted.enough;
        small = anew (λ k n. n.demand ≤ 67_108_864) notes g note room (rw same (group_small s sizes t within g)) noted.small;
      }
