-- Alike sheets are answered alike: the final bounds and marks are the same, and nothing else of a sheet enters an answer.
use mathlib.Core.Path.{◌≡◌, refl, sym, ◌∙◌, ap, ap₂}
use mathlib.Core.Bool.{Bool, ◌&&◌}
use mathlib.Core.List.{List, [], ◌∷◌}
use mathlib.Core.Option.{Option}
use Prim.Native.Nat.{ℕ, ◌<◌}
use native.Mathlib.Decide.{ℕ_discrete}
use lib.Dec.{leb}
use lib.ListN.{get_or}
use Rattle.laws.specs.Bits.{every}
use Rattle.laws.specs.Fill.{at_front}
use Rattle.laws.proofs.Bits.{every-same}
use Rattle.model.specs.Sheet.{Sheet}
use Rattle.model.specs.Alike.{Alike}
use Rattle.model.specs.Answer.{method_of}
use Rattle.model.specs.Refine.{rounds, marks}
use Rattle.model.proofs.Alike.{same_results}
use Rattle.refusals.specs.Refusals.{Refusal}
use Rattle.rows.specs.Words.{found_of}
use Rattle.rows.specs.Checks.{processors_refusal, method_refusal, first_held}
use Rattle.rows.proofs.Alike.{laid_refusal_alike}
use Rattle.refinement.specs.Question.{OneRow}
use Rattle.refinement.specs.Question.{bound_allowed, question_allowed, question_refusal, one_row_refusal_of, one_row_of}
use Rattle.refinement.proofs.Question.{one_row_answered, one_row_refused}
use Rattle.refinement.specs.Refinement.{ask_of, refine_refusal_of, Engine, EndsAlike, final_bounds, final_marks, handed, refined_of, refined_space_of}

module _ (s t : Sheet) (alike : Alike s t) (m method : ℕ) where
  -- The checks say the same.
  pub refine_refusal_alike : (broken : Bool) (room need : ℕ) → refine_refusal_of broken s m method room need ≡ refine_refusal_of broken t m method room need
  unfolding refine_refusal_of
  refine_refusal_alike broken room need = laid_refusal_alike s t alike broken _

  bounds_alike : (R : List ℕ) → every (bound_allowed s R) s.rows ≡ every (bound_allowed t R) t.rows
  unfolding bound_allowed
  bounds_alike R =
      every-same (bound_allowed s R) (bound_allowed t R) s.rows
      (λ i h. ap₂ (λ (c d : ℕ). leb c (get_or R i 0) && leb (get_or R i 0) d) (alike.cost i h) (alike.deadline i h))
      ∙ ap (every (bound_allowed t R)) alike.rows

  question_alike : (R : List ℕ) (row : ℕ) → question_allowed s R row ≡ question_allowed t R row
  unfolding question_allowed
  question_alike R row = let count = alike.rows in let bounds = bounds_alike R in cc

  pub one_row_refusal_alike : (broken : Bool) (R : List ℕ) (row : ℕ) → one_row_refusal_of broken s m method R row ≡ one_row_refusal_of broken t m method R row
  unfolding one_row_refusal_of question_refusal
  one_row_refusal_alike broken R row =
      let first = laid_refusal_alike s t alike broken (first_held (processors_refusal m ∷ method_refusal method ∷ [])) in
      let question = question_alike R row in cc

  -- Either engine ends at the same bounds and marks.
  rounds-same : final_bounds rounds s m method ≡ final_bounds rounds t m method
  unfolding final_bounds ask_of
  rounds-same = (same_results s t alike (method_of method) m).by_rounds

  final_alike : (engine : Engine) → EndsAlike engine → final_bounds engine s m method ≡ final_bounds engine t m method
  final_alike engine ends = ends s m method ∙ rounds-same ∙ sym (ends t m method)

  pub final_marks_alike : (engine : Engine) → EndsAlike engine → final_marks engine s m method ≡ final_marks engine t m method
  unfolding final_marks ask_of
  final_marks_alike engine ends =
      (same_results s t alike (method_of method) m).same-marks (final_bounds engine s m method)
      ∙ ap (marks t (ask_of t m method)) (final_alike engine ends)

  pub handed_alike : (engine : Engine) → EndsAlike engine → handed engine s m method ≡ handed engine t m method
  unfolding handed
  handed_alike engine ends = final_alike engine ends

  -- So an equal refusal and alike sheets give an equal answer, and leave equal words.
  pub refined_alike : (engine : Engine) → EndsAlike engine → (refusal : Refusal) → refined_of engine refusal s m method ≡ refined_of engine refusal t m method
  unfolding refined_of
  refined_alike engine ends refusal = rw (final_marks_alike engine ends)

  pub space_alike : (engine : Engine) → EndsAlike engine → (refusal : Refusal) (out : List ℕ)
      → refined_space_of engine refusal s m method out ≡ refined_space_of engine refusal t m method out
  unfolding refined_space_of
  space_alike engine ends refusal out = ap (λ (l : List ℕ). at_front refusal.number l out) (handed_alike engine ends)

  -- And so does the one-row question, whose row is there where it is not refused.
  pub one_row_alike : (refusal : Refusal) (R : List ℕ) (row : ℕ) → (refusal.number ≡ 0 → row < s.rows)
      → one_row_of refusal s m method R row ≡ one_row_of refusal t m method R row
  one_row_alike refusal R row there = decided (ℕ_discrete refusal.number 0)
    where
      decided : Dec (refusal.number ≡ 0) → one_row_of refusal s m method R row ≡ one_row_of refusal t m method R row
      decided (yes zero) =
          one_row_answered refusal s m method R row zero
          ∙ ap (λ (o : Option ℕ). let said : OneRow = record { refusal = 0; place = 0; answer = found_of o } in said)
          ((same_results s t alike (method_of method) m).answers row (there zero) R)
          ∙ sym (one_row_answered refusal t m method R row zero)
      decided (no one_holds) = one_row_refused refusal s m method R row refusal refl one_holds ∙ sym (one_row_refused refusal t m method R row refusal refl one_holds)
