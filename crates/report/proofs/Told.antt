-- What writing a result sheet gives is told as the definitions say it.
use mathlib.Core.Path.{◌≡◌, refl, ◌∙◌, ap}
use mathlib.Core.List.{List}
use Prim.Native.Nat.{ℕ}
use Rattle.std.specs.Prelude.{Err}
use Rattle.refusals.specs.declared.Refusal.{Refusal as Why}
use Rattle.refusals.specs.Refusals.{Refusal, refused}
use Rattle.refusals.specs.Told.{told}
use Rattle.rows.specs.Layouts.{Lent, shape_refusal}
use Rattle.rows.proofs.InOrder.{held}
use Rattle.grammar.specs.declared.Written.{Written}
use Rattle.grammar.specs.Told.{written_said}
use Rattle.report.specs.Result.{write_result_in, result_after_in}
use Rattle.report.proofs.Entries.{written_by_shape, bytes_by_shape}

-- Refused by the rows' shape.
module _ (lent : Lent) (m method : ℕ) (why : Why) (same : told why ≡ refused (shape_refusal lent) 0) where
  pub length_by_shape : (room : ℕ) → written_said (Err why) ≡ write_result_in lent m method room
  length_by_shape room =
      ap (λ (r : Refusal). let said : Written = record { refusal = r.number; place = r.place; length = 0 } in said) same
      ∙ written_by_shape lent m method (shape_refusal lent) refl (held why _ same) room

  pub out_by_shape : (out : List ℕ) → out ≡ result_after_in lent m method out
  out_by_shape out = bytes_by_shape lent m method (shape_refusal lent) refl (held why _ same) out
