-- Alike sheets are refused alike: they have as many rows, and the same row is the first outside.
use mathlib.Core.Path.{◌≡◌, ◌∙◌, ap}
use mathlib.Core.Bool.{Bool, not}
use Prim.Native.Nat.{ℕ}
use native.Mathlib.Omega.{arith}
use Rattle.laws.specs.Search.{least}
use Rattle.laws.proofs.Search.{least-same}
use Rattle.model.specs.Sheet.{Sheet}
use Rattle.model.specs.Alike.{Alike}
use Rattle.model.proofs.Alike.{row_allowed_alike}
use Rattle.rows.specs.Words.{outside, first_outside}
use Rattle.rows.specs.Checks.{sheet_refusal, laid_refusal}

module _ (s t : Sheet) (alike : Alike s t) where
  first_outside_alike : first_outside s ≡ first_outside t
  unfolding first_outside outside
  first_outside_alike =
      least-same (outside s) (outside t) 0 s.rows (λ k from here. ap not (row_allowed_alike s t alike k (omega arith)))
      ∙ ap (least (outside t) 0) alike.rows

  sheet_refusal_alike : (own : ℕ) → sheet_refusal s own ≡ sheet_refusal t own
  unfolding sheet_refusal
  sheet_refusal_alike own = let count = alike.rows in let outside = first_outside_alike in cc

  -- Whatever their layout, where both are laid out as they should be or neither is.
  pub laid_refusal_alike : (broken : Bool) (own : ℕ) → laid_refusal broken s own ≡ laid_refusal broken t own
  unfolding laid_refusal
  laid_refusal_alike broken own = let rest = sheet_refusal_alike own in cc
