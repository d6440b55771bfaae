-- Refused by the rows' shape, the answers are told as the definitions say them; and nothing is lost in what is told.
use mathlib.Core.Path.{◌≡◌, refl, sym, ◌∙◌, ap}
use mathlib.Core.List.{List}
use Prim.Native.Nat.{ℕ}
use Rattle.std.specs.Prelude.{Result, Ok, Err, None}
use Rattle.refusals.specs.declared.Refusal.{Refusal as Why}
use Rattle.refusals.specs.Refusals.{Refusal, refused}
use Rattle.rows.specs.Words.{Found}
use Rattle.refusals.specs.Told.{told}
use Rattle.rows.specs.Layouts.{Lent, shape_refusal}
use Rattle.rows.proofs.InOrder.{held, numbered, told_fixed}
use Rattle.refinement.specs.declared.Refined.{Refined}
use Rattle.refinement.specs.Question.{OneRow, one_row_in}
use Rattle.refinement.specs.Refinement.{Engine, refined_in, refined_words_in}
use Rattle.refinement.specs.Told.{row_said, marks_said}
use Rattle.refinement.proofs.Layouts.{one_row_by_shape, refined_by_shape}

module _ (lent : Lent) (m method : ℕ) (why : Why) (same : told why ≡ refused (shape_refusal lent) 0) where
  pub row_by_shape : (R : List ℕ) (row : ℕ) → row_said (Err why) ≡ one_row_in lent m method R row
  row_by_shape R row =
      ap (λ (r : Refusal). let said : OneRow = record { refusal = r.number; place = r.place; answer = None } in said) same
      ∙ sym (one_row_by_shape lent m method (shape_refusal lent) refl (held why _ same) R row)

  pub marks_by_shape : (engine : Engine) (out : List ℕ) (room : ℕ) → marks_said (Err why) ≡ refined_in engine lent m method room
  marks_by_shape engine out room =
      ap (λ (r : Refusal). let said : Refined = record { refusal = r.number; place = r.place; marks = 0 } in said) same
      ∙ (refined_by_shape lent m method (shape_refusal lent) refl (held why _ same) engine out room).0

  pub words_by_shape : (engine : Engine) (out : List ℕ) → out ≡ refined_words_in engine lent m method out
  words_by_shape engine out = (refined_by_shape lent m method (shape_refusal lent) refl (held why _ same) engine out _).1

-- Results that are told alike are one.
pub row_said_fixed : (r q : Result Found Why) → row_said r ≡ row_said q → r ≡ q
row_said_fixed (Ok answer) (Ok other) same = ap Ok (ap (λ (a : OneRow). a.answer) same)
row_said_fixed (Ok answer) (Err other) same = absurd (numbered other (sym (ap (λ (a : OneRow). a.refusal) same)))
row_said_fixed (Err why) (Ok other) same = absurd (numbered why (ap (λ (a : OneRow). a.refusal) same))
row_said_fixed (Err why) (Err other) same = ap Err (told_fixed why other (ap (λ (a : OneRow). refused a.refusal a.place) same))

pub marks_said_fixed : (r q : Result ℕ Why) → marks_said r ≡ marks_said q → r ≡ q
marks_said_fixed (Ok marks) (Ok other) same = ap Ok (ap (λ (a : Refined). a.marks) same)
marks_said_fixed (Ok marks) (Err other) same = absurd (numbered other (sym (ap (λ (a : Refined). a.refusal) same)))
marks_said_fixed (Err why) (Ok other) same = absurd (numbered why (ap (λ (a : Refined). a.refusal) same))
marks_said_fixed (Err why) (Err other) same = ap Err (told_fixed why other (ap (λ (a : Refined). refused a.refusal a.place) same))
