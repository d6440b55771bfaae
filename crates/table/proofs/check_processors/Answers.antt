-- `check_processors` meets its contract: 1 to 64 is the range allowed, and it has no place.
use mathlib.Core.Path.{◌≡◌, refl, ◌∙◌, ap}
use mathlib.Core.Bool.{Bool, true, false}
use Prim.Native.Nat.{ℕ}
use Rattle.laws.specs.Choice.{pick}
use Rattle.model.specs.Sheet.{processors_allowed}
use Rattle.refusals.specs.Refusals.{refused}
use Rattle.rows.specs.Checks.{range_refusal, processors_refusal}
use Rattle.table.proofs.check_processors.Goals as goal

no-place : (allowed : Bool) → ◌≡◌ {A = ℕ} (pick allowed 0 0) 0
no-place true = refl
no-place false = refl

pub returns : goal.returns
unfolding range_refusal processors_refusal processors_allowed
returns c = c.check_range.ensures ∙ ap (refused _) (no-place _)
