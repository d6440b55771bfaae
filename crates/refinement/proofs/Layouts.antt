-- The same rows are answered the same, whatever their layouts: the refusal is the same, and so is what alike sheets are answered. Rows that 2
-- or 3 refuses are answered so.
use mathlib.Core.Path.{◌≡◌, sym, ◌∙◌, ap}
use mathlib.Core.Bool.{Bool}
use mathlib.Core.List.{List}
use Prim.Native.Nat.{ℕ}
use Rattle.refusals.specs.Refusals.{Refusal}
use Rattle.std.specs.declared.option.Option.TheVariants.{None}
use Rattle.refusals.specs.Refusals.{refused}
use Rattle.rows.specs.Layouts.{Lent, shape_refusal, SameRows}
use Rattle.rows.proofs.Checks.{shape_refused}
use Rattle.refinement.specs.declared.Refined.{Refined}
use Rattle.refinement.specs.Question.{one_row_refusal_of, one_row_of, one_row_in}
use Rattle.refinement.specs.Refinement.{Engine, EndsAlike, refine_refusal_of, refined_of, refined_space_of, refined_in, refined_words_in}
use Rattle.refinement.proofs.Question.{asked, refused_first, one_row_refused}
use Rattle.refinement.proofs.Refinement.{refine_refused}
use Rattle.refinement.proofs.Alike.{one_row_refusal_alike, one_row_alike, refine_refusal_alike, refined_alike, space_alike}

module _ (one other : Lent) (same : SameRows one other) (m method : ℕ) where
  pub one_row_same : (R : List ℕ) (row : ℕ) → one_row_in one m method R row ≡ one_row_in other m method R row
  one_row_same R row =
      let s = one.sheet in
      let t = other.sheet in
      let refusal : one_row_refusal_of one.broken s m method R row ≡ one_row_refusal_of other.broken t m method R row =
      ap (λ (broken : Bool). one_row_refusal_of broken s m method R row) same.layout ∙ one_row_refusal_alike s t same.alike m method other.broken R row in
      one_row_alike s t same.alike m method _ R row (λ zero. (asked one.broken s m method R row zero).there)
      ∙ ap (λ (r : Refusal). one_row_of r t m method R row) refusal

  -- The checks of a refinement, whatever room the answer of so many rows needs.
  pub refine_refusal_same : (room : ℕ) (need : ℕ → ℕ)
      → refine_refusal_of one.broken one.sheet m method room (need one.sheet.rows)
      ≡ refine_refusal_of other.broken other.sheet m method room (need other.sheet.rows)
  refine_refusal_same room need =
      ap (λ (broken : Bool). refine_refusal_of broken one.sheet m method room (need one.sheet.rows)) same.layout
      ∙ refine_refusal_alike one.sheet other.sheet same.alike m method other.broken room _
      ∙ ap (λ (n : ℕ). refine_refusal_of other.broken other.sheet m method room (need n)) same.alike.rows

  pub refined-same : (engine : Engine) → EndsAlike engine → (room : ℕ) → refined_in engine one m method room ≡ refined_in engine other m method room
  refined-same engine ends room =
      refined_alike one.sheet other.sheet same.alike m method engine ends _
      ∙ ap (λ (r : Refusal). refined_of engine r other.sheet m method) (refine_refusal_same room (λ n. n))

  pub refined_words_same : (engine : Engine) → EndsAlike engine → (out : List ℕ) → refined_words_in engine one m method out ≡ refined_words_in engine other m method out
  refined_words_same engine ends out =
      space_alike one.sheet other.sheet same.alike m method engine ends _ out
      ∙ ap (λ (r : Refusal). refined_space_of engine r other.sheet m method out) (refine_refusal_same _ (λ n. n))

module _ (lent : Lent) (m method shape : ℕ) (is_shape : shape ≡ shape_refusal lent) (held : shape ≡ 0 → ⊥) where
  -- What 2 or 3 refuses, whatever the entry's own checks say.
  not_passed : shape_refusal lent ≡ 0 → ⊥
  not_passed zero = held (is_shape ∙ zero)

  pub refine_by_shape : (room need : ℕ) → refused shape 0 ≡ refine_refusal_of lent.broken lent.sheet m method room need
  unfolding refine_refusal_of
  refine_by_shape room need = ap (λ (n : ℕ). refused n 0) is_shape ∙ sym (shape_refused lent _ not_passed)

  pub one_row_by_shape : (R : List ℕ) (row : ℕ) → one_row_in lent m method R row ≡ record { refusal = shape; place = 0; answer = None }
  one_row_by_shape R row =
      one_row_refused _ lent.sheet m method R row (refused shape 0)
      (refused_first lent.broken lent.sheet m method R row (refused shape 0)
      (ap (λ (n : ℕ). refused n 0) is_shape ∙ sym (shape_refused lent _ not_passed)) held)
      held

  pub refined_by_shape : (engine : Engine) (out : List ℕ) (room : ℕ)
      → (◌≡◌ {A = Refined} (record { refusal = shape; place = 0; marks = 0 }) (refined_in engine lent m method room))
      × (out ≡ refined_space_of engine (refine_refusal_of lent.broken lent.sheet m method room lent.sheet.rows) lent.sheet m method out)
  refined_by_shape engine out room =
      refine_refused engine _ lent.sheet m method out (refused shape 0) (refine_by_shape room lent.sheet.rows) held
