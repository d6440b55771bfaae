-- The one-row answers mean what they say: RTA's by the law of a search, BCL's by its one test. The meaning fixes the answer, and a climb
-- from the cost reaches RTA's.
use mathlib.Core.Path.{◌≡◌, refl, sym, ◌∙◌, ap}
use mathlib.Core.Bool.{Bool, true, false}
use mathlib.Core.List.{List}
use mathlib.Core.Option.{Option, none, some}
use Prim.Native.Nat.{ℕ, zero, suc, ◌+◌, ◌-◌, ◌≤◌, ◌<◌}
use native.Mathlib.Omega.{arith}
use borrow.Author.Tests.{eqb-true, eqb-false, eq-eqb, ne_eqb, leb-true, leb-false, le-leb, lt-leb}
use lib.Dec.{leb}
use Rattle.laws.specs.Choice.{pick, Better}
use Rattle.laws.specs.Search.{Searched}
use Rattle.laws.specs.Climb.{fixed, climb}
use Rattle.laws.proofs.Choice.{pick_yes, pick_no}
use Rattle.laws.proofs.Search.{least_means, least-fixed}
use Rattle.laws.proofs.Climb.{Climbed, climbed_found, climbed_past, climb_reaches, fixed_below}
use Rattle.model.specs.Sheet.{Sheet}
use Rattle.model.specs.Interference.{bcl_value, rta_right}
use Rattle.model.specs.Answer.{Method, BCL, RTA, method_of, bcl_answer, rta_answer, answer, Answers}
use Rattle.model.proofs.Interference.{rta_right_rises, rta_right_from_cost, bcl_value_from_cost}

-- Method 0 is BCL; every other number counts as RTA, and those above 1 are refused before.
pub method_zero : (number : ℕ) → number ≡ 0 → method_of number ≡ BCL
unfolding method_of
method_zero number zero_it_is = rw zero_it_is

pub method_other : (number : ℕ) → (number ≡ 0 → ⊥) → method_of number ≡ RTA
unfolding method_of
method_other zero other = absurd (other refl)
method_other (suc number) other = refl

module _ (s : Sheet) (m k : ℕ) (R : List ℕ) where
  -- The search for a fixed value over C to D, in the words of demand 2.
  response : (r : Option ℕ) → Searched (fixed (rta_right s m k R)) (s.cost k) (s.deadline k + 1 - s.cost k) r → Answers RTA s m k R r
  response none h = λ y low high own. eqb-false y (rta_right s m k R y) (h y low (omega arith)) own
  response (some x) h =
      let low : s.cost k ≤ x = h.from in
      let high : x < s.cost k + (s.deadline k + 1 - s.cost k) = h.inside in
      record {
        from_cost = low;
        by_deadline = omega arith;
        solves = eqb-true x (rta_right s m k R x) h.passes;
        lowest = λ y from below. eqb-false y (rta_right s m k R y) (h.lowest y from below);
      }

  -- And back.
  searched : (r : Option ℕ) → Answers RTA s m k R r → Searched (fixed (rta_right s m k R)) (s.cost k) (s.deadline k + 1 - s.cost k) r
  searched none h = λ y low high. ne_eqb y (rta_right s m k R y) (h y low (omega arith))
  searched (some x) h =
      let low : s.cost k ≤ x = h.from_cost in
      let high : x ≤ s.deadline k = h.by_deadline in
      record {
        passes = eq-eqb x (rta_right s m k R x) h.solves;
        from = low;
        inside = omega arith;
        lowest = λ y from below. ne_eqb y (rta_right s m k R y) (h.lowest y from below);
      }

  -- BCL's answer by its test.
  formula : (meets : Bool) → leb (bcl_value s m k R) (s.deadline k) ≡ meets
      → Answers BCL s m k R (pick meets (some (bcl_value s m k R)) none)
  formula true meets = record { value = refl; by_deadline = leb-true _ _ meets }
  formula false fails = leb-false _ _ fails

  -- An answer means what demand 2 says: a found one lies from the cost to the deadline, solves the equation (is the formula's value), and
  -- nothing lower solves it; none is given only where there is none.
  pub answer_means : (method : Method) → Answers method s m k R (answer method s m k R)
  unfolding answer bcl_answer rta_answer
  answer_means BCL = formula (leb (bcl_value s m k R) (s.deadline k)) refl
  answer_means RTA = response (rta_answer s m k R) (least_means (fixed (rta_right s m k R)) (s.cost k) (s.deadline k + 1 - s.cost k))

  -- The meaning fixes the answer.
  pub answer-fixed : (method : Method) (a : Option ℕ) → Answers method s m k R a → answer method s m k R ≡ a
  unfolding answer bcl_answer rta_answer
  answer-fixed BCL none over = pick_no _ _ _ (lt-leb _ _ over)
  answer-fixed BCL (some q) h =
      pick_yes _ _ _ (le-leb _ _ (rw h.value at h.by_deadline)) ∙ ap {B = Option ℕ} some (sym h.value)
  answer-fixed RTA a h =
      least-fixed (fixed (rta_right s m k R)) (s.cost k) (s.deadline k + 1 - s.cost k) a (searched a h)

  -- Climbing from the cost, value by value, reaches RTA's answer in at most D + 1 − C values.
  pub climb_answers : climb (rta_right s m k R) (s.deadline k) (s.deadline k + 1 - s.cost k) (s.cost k) ≡ rta_answer s m k R
  unfolding rta_answer
  climb_answers =
      climb_reaches (rta_right s m k R) (rta_right_rises s m k R) (s.cost k) (s.deadline k) (rta_right_from_cost s m k R (s.cost k))

  -- If some X from the cost to the deadline is not raised, RTA's answer exists and is at most X.
  pub rta_below : (x : ℕ) → s.cost k ≤ x → x ≤ s.deadline k → rta_right s m k R x ≤ x → Better (rta_answer s m k R) (some x)
  unfolding rta_answer
  rta_below x from within stays =
      fixed_below (rta_right s m k R) (rta_right_rises s m k R) (s.cost k) (s.deadline k + 1 - s.cost k) x
      (rta_right_from_cost s m k R (s.cost k)) from (omega arith) stays

  -- A found answer lies from the cost to the deadline, by either method.
  pub answer-within : (method : Method) (x : ℕ) → answer method s m k R ≡ some x → (s.cost k ≤ x) × (x ≤ s.deadline k)
  answer-within method x found = lies method (rw found at (answer_means method))
    where
      lies : (method : Method) → Answers method s m k R (some x) → (s.cost k ≤ x) × (x ≤ s.deadline k)
      lies BCL h = (rw h.value (bcl_value_from_cost s m k R), h.by_deadline)
      lies RTA h = (h.from_cost, h.by_deadline)

-- A climb from the cost that stands at its own value, within the deadline, has found RTA's answer.
pub climb_found : (s : Sheet) (m k : ℕ) (R : List ℕ) (x : ℕ) → Climbed (rta_right s m k R) (s.cost k) x → x ≤ s.deadline k
    → x ≡ rta_right s m k R x → rta_answer s m k R ≡ some x
unfolding rta_answer
climb_found s m k R x climbed within own =
    climbed_found (rta_right s m k R) (s.cost k) (s.deadline k + 1 - s.cost k) x climbed own (omega (arith, climbed.from))

-- One that has passed the deadline shows that there is none.
pub climb-none : (s : Sheet) (m k : ℕ) (R : List ℕ) (x : ℕ) → Climbed (rta_right s m k R) (s.cost k) x → s.deadline k < x
    → rta_answer s m k R ≡ none
unfolding rta_answer
climb-none s m k R x climbed past =
    climbed_past (rta_right s m k R) (s.cost k) (s.deadline k + 1 - s.cost k) x climbed (omega (arith, climbed.from))
