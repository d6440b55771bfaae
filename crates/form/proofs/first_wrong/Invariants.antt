-- The loop of `first_wrong`: no offset that it has passed is wrong.
use Prim.Native.Nat.{ℕ, ◌<◌}
use mathlib.Core.Path.{◌≡◌}
use mathlib.Core.Bool.{false}
use Rattle.grammar.specs.Grammar.{wrong_at}
use Rattle.form.proofs.first_wrong.Given as goal

abbrev pub invariant-loop-offset : goal.invariant-loop-offset
invariant-loop-offset l = (k : ℕ) → k < l.offset → wrong_at l.bytes k ≡ false
