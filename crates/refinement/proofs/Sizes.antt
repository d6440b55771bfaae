-- What is known of a row's cost and period and of its bound: the sheet's sizes, read at the row's place.
use mathlib.Core.List.{List}
use Prim.Native.Nat.{ℕ, ◌<◌}
use native.Mathlib.Omega.{arith}
use lib.ListN.{get_or}
use Rattle.model.specs.Sheet.{Sheet}
use Rattle.model.proofs.Sheet.{row_sized}
use Rattle.refinement.specs.Question.{Ready}
use Rattle.refinement.specs.Inner.Kept.{Sizes}

pub sizes : (s : Sheet) (R : List ℕ) → Ready s R → (i : ℕ) → i < s.rows → Sizes (s.cost i) (s.period i) (get_or R i 0)
sizes s R ready i inside =
    let sized = row_sized s ready.rows i inside in
    let range = ready.in_range i inside in
    record { some_cost = omega arith; by_period = omega arith; small = omega arith; from_cost = omega arith; by_limit = omega arith }
