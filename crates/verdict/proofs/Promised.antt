-- The answer keeps its promise, and the promise fixes the answer: the refusal by the table, the outcome by the verdict's meaning.
use mathlib.Core.Path.{◌≡◌, refl, sym, ◌∙◌, ap}
use mathlib.Core.Bool.{Bool, true, false}
use mathlib.Core.Logic.{◌↔◌}
use Prim.Native.Nat.{ℕ, ◌≤◌}
use native.Mathlib.Omega.{arith}
use borrow.Author.Tests.{eqb-true, eqb-false}
use lib.Dec.{eqb}
use Rattle.laws.specs.Choice.{unless_refused}
use Rattle.laws.proofs.Choice.{not-refused, is_refused, one_answer}
use Rattle.laws.proofs.Promised.{Parts, kept, fixed}
use Rattle.model.specs.Sheet.{Sheet}
use Rattle.model.specs.Demand.{Verdict, miss, fits, undecided, demand, verdict, Means}
use Rattle.model.specs.Alike.{Alike}
use Rattle.model.proofs.Alike.{verdict_alike}
use Rattle.model.proofs.Demand.{allowed_verdict_means, verdict-fixed}
use Rattle.refusals.specs.Refusals.{Refusal}
use Rattle.refusals.specs.Refusals.{refused}
use Rattle.rows.specs.Layouts.{Lent, shape_refusal, SameRows}
use Rattle.rows.proofs.Alike.{laid_refusal_alike}
use Rattle.rows.proofs.Checks.{shape_refused}
use Rattle.rows.proofs.Layouts.{same_rows_answered}
use Rattle.verdict.specs.declared.Outcome.{Outcome}
use Rattle.verdict.specs.declared.Outcome.TheVariants.{Miss, Fits, Undecided}
use Rattle.verdict.specs.OneProcessor.{Answer}
use Rattle.verdict.specs.OneProcessor.{one_processor_refusal_of, outcome_of, verdict_of, outcome_number, outcome_value, refused_answer, answered, one_processor_of, one_processor_in, Testable, Promise}
use Rattle.verdict.proofs.Checked.{checked, checked_passes}

-- A verdict in the code's words is read back as itself, and an outcome too.
pub verdict_back : (v : Verdict) → verdict_of (outcome_of v) ≡ v
unfolding outcome_of verdict_of
verdict_back (miss t) = refl
verdict_back (fits b) = refl
verdict_back undecided = refl

pub outcome_back : (o : Outcome) → outcome_of (verdict_of o) ≡ o
unfolding outcome_of verdict_of
outcome_back (Miss t) = refl
outcome_back (Fits b) = refl
outcome_back Undecided = refl

-- An answer is its number, its place and its outcome.
abbrev made : ℕ → ℕ → Outcome → Answer
made number place outcome = record { refusal = number; place = place; outcome = outcome }

parts : Parts {A = Answer} (λ a. a.refusal) (λ a. a.place) (λ a. a.outcome) made
parts = record { number_of = λ n p o. refl; place_of = λ n p o. refl; said_of = λ n p o. refl; whole = λ a. refl }

-- Refused, the answer is the refused one; not refused, what was worked out.
pub answer-refused : (refusal : Refusal) (s : Sheet) (h : ℕ) → (refusal.number ≡ 0 → ⊥) → one_processor_of refusal s h ≡ refused_answer refusal
unfolding one_processor_of
answer-refused refusal s h one_holds = is_refused _ _ _ one_holds

pub answer_worked : (refusal : Refusal) (s : Sheet) (h : ℕ) → refusal.number ≡ 0 → one_processor_of refusal s h ≡ answered (verdict s h)
unfolding one_processor_of
answer_worked refusal s h none_holds = not-refused _ _ _ none_holds

-- With number 0 the place is 0 too.
no_place : (broken : Bool) (s : Sheet) (h : ℕ) → let refusal = one_processor_refusal_of broken s h in refusal.number ≡ 0 → refusal.place ≡ 0
no_place broken s h zero = ap (λ (r : Refusal). r.place) (checked_passes broken s h (checked broken s h zero))

-- The answer keeps the promise.
pub keeps : (broken : Bool) (s : Sheet) (h : ℕ)
    → let refusal = one_processor_refusal_of broken s h in Promise refusal s h (one_processor_of refusal s h)
unfolding one_processor_of refused_answer answered
keeps broken s h =
    let carries =
    kept _ _ _ made parts _ _ Undecided (outcome_of (verdict s h)) (λ o. Means s h (verdict_of o)) (no_place broken s h)
    (λ zero. rw verdict_back (allowed_verdict_means s (checked broken s h zero).sizes h)) in
    record { number = carries.numbered; place = carries.placed; means = carries.means; nothing = carries.nothing }

-- It is not refused exactly where everything asked for holds.
pub one_processor_not-refused : (broken : Bool) (s : Sheet) (h : ℕ)
    → ((one_processor_of (one_processor_refusal_of broken s h) s h).refusal ≡ 0) ↔ Testable broken s h
one_processor_not-refused broken s h = (
  λ zero. checked broken s h (sym (keeps broken s h).number ∙ zero),
  λ facts. (keeps broken s h).number ∙ ap (λ (r : Refusal). r.number) (checked_passes broken s h facts),
)

-- Whatever keeps the promise is the answer.
pub fixes : (broken : Bool) (s : Sheet) (h : ℕ) (a : Answer)
    → let refusal = one_processor_refusal_of broken s h in Promise refusal s h a → a ≡ one_processor_of refusal s h
unfolding one_processor_of refused_answer answered
fixes broken s h a promise =
    fixed _ _ _ made parts _ _ Undecided (outcome_of (verdict s h)) (λ o. Means s h (verdict_of o)) (no_place broken s h)
    (λ zero o means. sym (outcome_back o) ∙ ap outcome_of (sym (verdict-fixed s h (verdict_of o) means))) a
    (record { numbered = promise.number; placed = promise.place; means = promise.means; nothing = promise.nothing })

-- Any two results that the contract allows are equal.
pub one_result : (refusal : Refusal) (s : Sheet) (h : ℕ) (a b : Answer) → a ≡ one_processor_of refusal s h → b ≡ one_processor_of refusal s h → a ≡ b
one_result refusal s h a b first second = one_answer first second

-- "Fits" is said only where no length at all demands more than its length, whatever the horizon.
pub fits_for_ever : (broken : Bool) (s : Sheet) (h b : ℕ) → (one_processor_of (one_processor_refusal_of broken s h) s h).outcome ≡ Fits b
    → (t : ℕ) → 1 ≤ t → demand s t ≤ t
unfolding verdict_of
fits_for_ever broken s h b says = split (eqb answer.refusal 0) refl
  where
    answer : Answer
    answer = one_processor_of (one_processor_refusal_of broken s h) s h

    split : (zero : Bool) → eqb answer.refusal 0 ≡ zero → (t : ℕ) → 1 ≤ t → demand s t ≤ t
    split true is_zero =
        let meant : Means s h (verdict_of (Fits b)) = rw says at ((keeps broken s h).means (eqb-true _ 0 is_zero)) in
        meant.never_over
    split false not-zero =
        let silent : answer.outcome ≡ Undecided = (keeps broken s h).nothing (eqb-false _ 0 not-zero) in
        let never : ◌≡◌ {A = ℕ} 0 1 = cc in
        absurd (omega arith)

-- The two numbers of an outcome fix it.
pub numbers_fix : (o p : Outcome) → outcome_number o ≡ outcome_number p → outcome_value o ≡ outcome_value p → o ≡ p
unfolding outcome_number outcome_value
numbers_fix (Miss t) (Miss u) numbers values = ap Miss values
numbers_fix (Miss t) (Fits u) numbers values = absurd (omega arith)
numbers_fix (Miss t) Undecided numbers values = absurd (omega arith)
numbers_fix (Fits t) (Miss u) numbers values = absurd (omega arith)
numbers_fix (Fits t) (Fits u) numbers values = ap Fits values
numbers_fix (Fits t) Undecided numbers values = absurd (omega arith)
numbers_fix Undecided (Miss u) numbers values = absurd (omega arith)
numbers_fix Undecided (Fits u) numbers values = absurd (omega arith)
numbers_fix Undecided Undecided numbers values = refl

-- Refused, every number but the refusal's own number and place is 0.
pub refused_zeros : (refusal : Refusal) (s : Sheet) (h : ℕ) → (refusal.number ≡ 0 → ⊥)
    → (outcome_number (one_processor_of refusal s h).outcome ≡ 0) × (outcome_value (one_processor_of refusal s h).outcome ≡ 0)
unfolding refused_answer outcome_number outcome_value
refused_zeros refusal s h one_holds = rw (answer-refused refusal s h one_holds) (refl, refl)

-- Alike sheets are refused alike, and an equal refusal and alike sheets give an equal answer.
pub one_processor_refusal_alike : (s t : Sheet) → Alike s t → (broken : Bool) (h : ℕ) → one_processor_refusal_of broken s h ≡ one_processor_refusal_of broken t h
unfolding one_processor_refusal_of
one_processor_refusal_alike s t alike broken h = laid_refusal_alike s t alike broken _

pub one_processor_alike : (s t : Sheet) → Alike s t → (refusal : Refusal) (h : ℕ) → one_processor_of refusal s h ≡ one_processor_of refusal t h
unfolding one_processor_of
one_processor_alike s t alike refusal h =
    ap (λ (v : Verdict). unless_refused refusal.number (refused_answer refusal) (answered v)) (verdict_alike s t alike h)

-- So the same rows have one answer, whatever their layouts.
pub one_processor_same : (one other : Lent) → SameRows one other → (h : ℕ) → one_processor_in one h ≡ one_processor_in other h
one_processor_same one other same h =
    same_rows_answered (λ broken s. one_processor_refusal_of broken s h) (λ refusal s. one_processor_of refusal s h)
    (λ s t alike broken. one_processor_refusal_alike s t alike broken h) (λ s t alike refusal. one_processor_alike s t alike refusal h) one other same

-- Rows that 2 or 3 refuses are answered so, whatever the horizon.
pub one_processor_shape_refused : (lent : Lent) (h : ℕ) → (shape_refusal lent ≡ 0 → ⊥)
    → one_processor_in lent h ≡ refused_answer (refused (shape_refusal lent) 0)
unfolding one_processor_refusal_of
one_processor_shape_refused lent h held =
    let by_shape = shape_refused lent _ held in
    ap (λ (r : Refusal). one_processor_of r lent.sheet h) by_shape ∙ answer-refused (refused (shape_refusal lent) 0) lent.sheet h held
