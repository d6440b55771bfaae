-- The loop of `first_outside`: no row passed is outside.
use mathlib.Core.Path.{◌≡◌}
use mathlib.Core.Bool.{false}
use Prim.Native.Nat.{ℕ, ◌<◌}
use Rattle.model.specs.Sheet.{triples}
use Rattle.rows.specs.Words.{outside}
use Rattle.rows.proofs.first_outside.Given as goal

abbrev pub invariant-loop-row : goal.invariant-loop-row
invariant-loop-row l = (k : ℕ) → k < l.row → outside (triples l.count l.words) k ≡ false
