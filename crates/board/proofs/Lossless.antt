-- Nothing is lost in numbers. A bound is at least its row's cost, so 0 is left for none; the cases of an outcome and of a reply have
-- different numbers.
use mathlib.Core.Path.{◌≡◌, refl, ◌∙◌, ap}
use mathlib.Core.List.{List}
use Prim.Native.Nat.{ℕ, ◌≤◌}
use native.Mathlib.Decide.{ℕ_discrete}
use native.Mathlib.Omega.{arith}
use Rattle.laws.proofs.Choice.{one_answer}
use Rattle.model.specs.Sheet.{Sheet}
use Rattle.model.specs.Answer.{method_of}
use Rattle.model.proofs.Methods.{answer_regular}
use Rattle.model.proofs.Sheet.{row_sized}
use Rattle.rows.specs.Words.{Found}
use Rattle.std.specs.declared.option.Option.TheVariants.{Some, None}
use Rattle.refusals.specs.Refusals.{Refusal}
use Rattle.rows.specs.Words.{bound_or, bound_number}
use Rattle.rows.specs.Layouts.{Lent}
use Rattle.rows.proofs.Words.{found_some}
use Rattle.refinement.specs.Question.{OneRow}
use Rattle.refinement.specs.Question.{one_row_refusal_of, one_row_of, one_row_in}
use Rattle.refinement.proofs.Question.{asked, one_row_answered, one_row_refused, one_row_keeps}
use Rattle.verdict.specs.OneProcessor.{Answer}
use Rattle.verdict.specs.OneProcessor.{one_processor_in}
use Rattle.verdict.proofs.Promised.{numbers_fix, refused_zeros, keeps}
use Rattle.quick_look.specs.DensityTest.{DensityAnswer}
use Rattle.quick_look.specs.DensityTest.{density_in}
use Rattle.quick_look.proofs.Promised.{reply_fixed, refused-zero}
use Rattle.board.specs.declared.RowNumbers.{RowNumbers}
use Rattle.board.specs.declared.OutcomeNumbers.{OutcomeNumbers}
use Rattle.board.specs.declared.DensityNumbers.{DensityNumbers}
use Rattle.board.specs.Face.{row_in_numbers, outcome_in_numbers, density_in_numbers}

-- A bound that is answered is not 0.
abbrev pub Positive : Found → Type 0
Positive found = (bound : ℕ) → found ≡ Some bound → 1 ≤ bound

-- The entry answers no bound of 0.
pub bound_positive : (lent : Lent) (m method : ℕ) (R : List ℕ) (row : ℕ) → Positive (one_row_in lent m method R row).answer
bound_positive lent m method R row = decided (ℕ_discrete refusal.number 0)
  where
    s : Sheet
    s = lent.sheet

    refusal : Refusal
    refusal = one_row_refusal_of lent.broken s m method R row

    decided : Dec (refusal.number ≡ 0) → Positive (one_row_of refusal s m method R row).answer
    decided (yes zero) =
        rw (one_row_answered refusal s m method R row zero)
        (λ bound found.
        let known = asked _ s m method R row zero in
        let from_cost = (answer_regular (method_of method) s m).within row R bound (found_some _ bound found) in
        omega (arith, from_cost.0, (row_sized s known.posed.sizes row known.there).positive))
    decided (no one_refused) =
        rw (one_row_refused refusal s m method R row refusal refl one_refused)
        (λ bound found. let clash : ◌≡◌ {A = ℕ} 0 1 = cc in absurd (omega arith))

-- So the number of an answer fixes it.
bound_fixed : (f g : Found) → Positive f → Positive g → bound_number f ≡ bound_number g → f ≡ g
unfolding bound_or
bound_fixed (Some b) (Some c) some_bound other_bound same = ap Some same
bound_fixed (Some b) None some_bound other_bound same = absurd (omega (arith, some_bound b refl))
bound_fixed None (Some c) some_bound other_bound same = absurd (omega (arith, other_bound c refl))
bound_fixed None None some_bound other_bound same = refl

-- Answers to the one-row question that are told in the same numbers are the same.
pub row_fixed : (r q : OneRow) → Positive r.answer → Positive q.answer → row_in_numbers r ≡ row_in_numbers q → r ≡ q
unfolding row_in_numbers
row_fixed r q r_positive q_positive same =
    let answers = bound_fixed r.answer q.answer r_positive q_positive (ap (λ (n : RowNumbers). n.bound) same) in
    λ i. record { refusal = (same i).refusal; place = (same i).place; answer = answers i }

-- Answers of the exact test that are told in the same numbers are the same.
pub outcome_fixed : (r q : Answer) → outcome_in_numbers r ≡ outcome_in_numbers q → r ≡ q
unfolding outcome_in_numbers
outcome_fixed r q same =
    let outcomes =
    numbers_fix r.outcome q.outcome (ap (λ (n : OutcomeNumbers). n.outcome) same) (ap (λ (n : OutcomeNumbers). n.length) same) in
    λ i. record { refusal = (same i).refusal; place = (same i).place; outcome = outcomes i }

-- Answers of the density test that are told in the same numbers are the same.
pub density-number-fixed : (r q : DensityAnswer) → density_in_numbers r ≡ density_in_numbers q → r ≡ q
unfolding density_in_numbers
density-number-fixed r q same =
    let answers = reply_fixed r.answer q.answer (ap (λ (n : DensityNumbers). n.answer) same) in
    λ i. record { refusal = (same i).refusal; place = (same i).place; answer = answers i }

-- Refused, every number of these answers but the refusal's own number and place is 0.
pub row_zero : (lent : Lent) (m method : ℕ) (R : List ℕ) (row : ℕ) → ((row_in_numbers (one_row_in lent m method R row)).refusal ≡ 0 → ⊥)
    → (row_in_numbers (one_row_in lent m method R row)).bound ≡ 0
unfolding row_in_numbers bound_or
row_zero lent m method R row one_holds = ap bound_number ((one_row_keeps _ lent.sheet m method R row).nothing one_holds)

pub outcome_zeros : (lent : Lent) (h : ℕ) → ((outcome_in_numbers (one_processor_in lent h)).refusal ≡ 0 → ⊥)
    → ((outcome_in_numbers (one_processor_in lent h)).outcome ≡ 0) × ((outcome_in_numbers (one_processor_in lent h)).length ≡ 0)
unfolding outcome_in_numbers
outcome_zeros lent h one_holds = refused_zeros _ _ h (λ zero. one_holds ((keeps _ _ h).number ∙ zero))

pub density-zero : (lent : Lent) (m : ℕ) → ((density_in_numbers (density_in lent m)).refusal ≡ 0 → ⊥)
    → (density_in_numbers (density_in lent m)).answer ≡ 0
unfolding density_in_numbers
density-zero lent m one_holds = refused-zero lent.broken lent.sheet m one_holds

-- Two results that the contracts of these functions allow are equal.
pub row_numbers_unique : (lent : Lent) (m method : ℕ) (R : List ℕ) (row : ℕ) (first second : RowNumbers)
    → first ≡ row_in_numbers (one_row_in lent m method R row) → second ≡ row_in_numbers (one_row_in lent m method R row) → first ≡ second
row_numbers_unique lent m method R row first second = one_answer

pub outcome_numbers_unique : (lent : Lent) (h : ℕ) (first second : OutcomeNumbers) → first ≡ outcome_in_numbers (one_processor_in lent h)
    → second ≡ outcome_in_numbers (one_processor_in lent h) → first ≡ second
outcome_numbers_unique lent h first second = one_answer

pub density_numbers_unique : (lent : Lent) (m : ℕ) (first second : DensityNumbers) → first ≡ density_in_numbers (density_in lent m)
    → second ≡ density_in_numbers (density_in lent m) → first ≡ second
density_numbers_unique lent m first second = one_answer
