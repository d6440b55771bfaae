-- Alike sheets give the same. What is refined: each lies in the other, place for place, so each ends no higher. What is summed or tested
-- row by row: the numbers are the same.
use mathlib.Core.Path.{◌≡◌, sym, ◌∙◌, ap, ap₂}
use mathlib.Core.List.{List}
use Prim.Native.Nat.{ℕ, ◌*◌, ◌<◌}
use native.Mathlib.Nat.{le_refl}
use native.Mathlib.Omega.{arith}
use lib.ListN.{get_or}
use Rattle.laws.specs.Choice.{is_some}
use Rattle.laws.specs.Sum.{total}
use Rattle.laws.specs.Fill.{listed}
use Rattle.laws.specs.Bits.{bits, every}
use Rattle.laws.proofs.Choice.{better_antisymm}
use Rattle.laws.proofs.Sum.{total-same}
use Rattle.laws.proofs.Search.{least-same}
use Rattle.laws.proofs.Fill.{listed_same, below_antisymm}
use Rattle.laws.proofs.Bits.{bits-same, every-same}
use Rattle.model.specs.Sheet.{Sheet, row_allowed, row_allowed_at}
use Rattle.model.specs.Answer.{Method, answer}
use Rattle.model.specs.Refine.{Ask, deadlines, rounds, marked, marks, accepted}
use Rattle.model.specs.Alike.{LiesIn, Alike, SameResults}
use Rattle.model.specs.Demand.{row_demand, demand_of, demand, ceiling, busy_of, busy, busy_length, first_miss, judged, verdict}
use Rattle.model.proofs.Engines.{rounds_largest}
use Rattle.model.proofs.Along.{answer-along}
use Rattle.model.proofs.Methods.{answer_regular, engines_agree, method_eased}

-- Alike sheets are alike the other way round.
pub alike_back : (s t : Sheet) → Alike s t → Alike t s
alike_back s t alike =
    let inside : (k : ℕ) → k < t.rows → k < s.rows = λ k h. omega (arith, alike.rows) in
    record {
      rows = sym alike.rows;
      cost = λ k h. sym (alike.cost k (inside k h));
      deadline = λ k h. sym (alike.deadline k (inside k h));
      period = λ k h. sym (alike.period k (inside k h));
    }

-- And over a third sheet.
pub alike_then : (s t u : Sheet) → Alike s t → Alike t u → Alike s u
alike_then s t u first second =
    let inside : (k : ℕ) → k < s.rows → k < t.rows = λ k h. omega (arith, first.rows) in
    record {
      rows = first.rows ∙ second.rows;
      cost = λ k h. first.cost k h ∙ second.cost k (inside k h);
      deadline = λ k h. first.deadline k h ∙ second.deadline k (inside k h);
      period = λ k h. first.period k h ∙ second.period k (inside k h);
    }

-- Each of two alike sheets lies in the other, every row at its own place.
pub alike_lies : (s t : Sheet) → Alike s t → LiesIn s t (λ k. k)
alike_lies s t alike =
    record {
      places = record { inside = λ i h. omega (arith, alike.rows); apart = λ i j h h' same. same };
      cost = alike.cost;
      deadline = alike.deadline;
      period = alike.period;
    }

module _ (s t : Sheet) (alike : Alike s t) where
  -- A row answers the same, since each answer is better than the other.
  same_answers : (method : Method) (m k : ℕ) → k < s.rows → (R : List ℕ) → answer method s m k R ≡ answer method t m k R
  same_answers method m k here R =
      let there : k < t.rows = omega (arith, alike.rows) in
      better_antisymm (answer method s m k R) (answer method t m k R)
      (answer-along method m s t (λ k. k) (alike_lies s t alike) k here R R (λ i h. le_refl (get_or R i 0)))
      (answer-along method m t s (λ k. k) (alike_lies t s (alike_back s t alike)) k there R R (λ i h. le_refl (get_or R i 0)))

  -- The rounds end at the same bounds, since each lies below the other.
  same-rounds : (method : Method) (m : ℕ) → rounds s (answer method s m) ≡ rounds t (answer method t m)
  same-rounds method m =
      let in_other = method_eased method m s t (λ k. k) (alike_lies s t alike) in
      let other_in = method_eased method m t s (λ k. k) (alike_lies t s (alike_back s t alike)) in
      below_antisymm s.rows (rounds s (answer method s m)) (rounds t (answer method t m))
      (rounds_largest s (answer method s m) (answer_regular method s m)).consistent.one_each
      ((rounds_largest t (answer method t m) (answer_regular method t m)).consistent.one_each ∙ sym alike.rows)
      in_other.bounds (λ i h. other_in.bounds i (omega (arith, alike.rows)))

  -- Alike sheets have the same results, by either method.
  pub same_results : (method : Method) (m : ℕ) → SameResults method m s t
  unfolding marked marks accepted
  same_results method m =
      let ask : Ask = answer method s m in
      let ask' : Ask = answer method t m in
      let each_mark : (k : ℕ) → k < s.rows → (R : List ℕ) → marked ask R k ≡ marked ask' R k =
      λ k here R. ap is_some (same_answers method m k here R) in
      record {
        answers = same_answers method m;
        by_rounds = same-rounds method m;
        by_at_once = sym (engines_agree method s m).same_bounds ∙ same-rounds method m ∙ (engines_agree method t m).same_bounds;
        each_mark = each_mark;
        same-marks = λ R.
            bits-same (marked ask R) (marked ask' R) s.rows (λ k here. each_mark k here R) ∙ ap (bits (marked ask' R)) alike.rows;
        same-accepted = λ R.
            every-same (marked ask R) (marked ask' R) s.rows (λ k here. each_mark k here R) ∙ ap (every (marked ask' R)) alike.rows;
      }

  -- What depends on a row's three numbers alone is the same.
  by_row : {A : Type 0} (f : ℕ → ℕ → ℕ → A) (k : ℕ) → k < s.rows
      → f (s.cost k) (s.deadline k) (s.period k) ≡ f (t.cost k) (t.deadline k) (t.period k)
  by_row {A} f k here =
      ap (λ (c : ℕ). f c (s.deadline k) (s.period k)) (alike.cost k here)
      ∙ ap₂ (f (t.cost k)) (alike.deadline k here) (alike.period k here)

  -- A row's sizes are allowed in both or in neither.
  pub row_allowed_alike : (k : ℕ) → k < s.rows → row_allowed_at s k ≡ row_allowed_at t k
  unfolding row_allowed_at
  row_allowed_alike k here = by_row row_allowed k here

  -- The bounds begin alike.
  pub deadlines_alike : deadlines s ≡ deadlines t
  unfolding deadlines
  deadlines_alike = listed_same s.deadline t.deadline s.rows alike.deadline ∙ ap (listed t.deadline) alike.rows

  -- Demand is the same in every length.
  pub demand_alike : (l : ℕ) → demand s l ≡ demand t l
  unfolding demand demand_of
  demand_alike l =
      total-same (demand_of s l) (demand_of t l) s.rows (λ k here. by_row (λ c d p. row_demand c d p l) k here)
      ∙ ap (total (demand_of t l)) alike.rows

  -- And so is the busy work.
  pub busy_alike : (l : ℕ) → busy s l ≡ busy t l
  unfolding busy busy_of
  busy_alike l =
      total-same (busy_of s l) (busy_of t l) s.rows (λ k here. by_row (λ c d p. ceiling l p * c) k here)
      ∙ ap (total (busy_of t l)) alike.rows

  -- So the verdict is the same with every horizon.
  pub verdict_alike : (h : ℕ) → verdict s h ≡ verdict t h
  unfolding verdict first_miss busy_length
  verdict_alike h =
      ap₂ judged (least-same _ _ _ _ (λ l from below. rw (demand_alike l))) (least-same _ _ _ _ (λ l from below. rw (busy_alike l)))
