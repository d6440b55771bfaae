-- An answer by the method that a number names: 0 is BCL, any other RTA; and an answer as one number, where 0 is none.
use mathlib.Core.Path.{◌≡◌, ◌∙◌, ap}
use mathlib.Core.List.{List}
use Prim.Native.Nat.{ℕ, ◌<◌}
use native.Mathlib.Omega.{arith}
use Rattle.model.specs.Sheet.{Sheet}
use Rattle.model.specs.Answer.{bcl_answer, rta_answer, method_of, answer}
use Rattle.model.proofs.Answer.{method_zero, method_other, answer-within}
use Rattle.rows.specs.Words.{Found}
use Rattle.rows.specs.Words.{found_of, bound_or, found_from}
use Rattle.rows.proofs.Words.{found_back}
use Rattle.model.proofs.Sheet.{row_sized}
use Rattle.refinement.specs.Question.{Ready}

module _ (s : Sheet) (m k : ℕ) (R : List ℕ) (method : ℕ) (found : Found) where
  pub by_bcl : method ≡ 0 → found ≡ found_of (bcl_answer s m k R) → found ≡ found_of (answer (method_of method) s m k R)
  unfolding answer
  by_bcl is_zero is_found = rw (method_zero method is_zero) is_found

  pub by_rta : (method ≡ 0 → ⊥) → found ≡ found_of (rta_answer s m k R) → found ≡ found_of (answer (method_of method) s m k R)
  unfolding answer
  by_rta other is_found = rw (method_other method other) is_found

-- A row's answer is told by one number: its bound is not below its cost, which is not 0.
pub found_told : (s : Sheet) (R : List ℕ) (m k method bound : ℕ) (found : Found) → Ready s R → k < s.rows
    → bound ≡ bound_or (found_of (answer (method_of method) s m k R)) 0 → found ≡ found_from bound
    → found ≡ found_of (answer (method_of method) s m k R)
found_told s R m k method bound found ready inside is_bound is_found =
    let sized = row_sized s ready.rows k inside in
    is_found
    ∙ ap found_from is_bound
    ∙ found_back (answer (method_of method) s m k R)
    (λ x is_x. omega (arith, sized.positive, (answer-within s m k R (method_of method) x is_x).0))
