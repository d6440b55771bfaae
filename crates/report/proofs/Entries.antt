-- Writing a result sheet: what number 0 says, that allowed rows are refused only for want of room, and what stands in the sheet.
use mathlib.Core.Path.{◌≡◌, refl, sym, ◌∙◌, ap, ap₂}
use mathlib.Core.Bool.{Bool, false}
use mathlib.Core.List.{List, ◌++◌}
use mathlib.Core.Logic.{◌↔◌}
use Prim.Native.Nat.{ℕ, ◌≤◌}
use native.Mathlib.Omega.{arith}
use lib.ListN.{length, drop, length-append}
use Rattle.laws.specs.Fill.{at_front}
use Rattle.laws.proofs.Fill.{front_put, front_left}
use Rattle.model.specs.Alike.{Alike}
use Rattle.model.specs.Refine.{at_once}
use Rattle.model.specs.Sheet.{Sheet, Allowed}
use Rattle.model.proofs.Sheet.{few_rows}
use Rattle.refusals.specs.Refusals.{Refusal}
use Rattle.rows.specs.Checks.{processors_refusal, method_refusal, room_refusal}
use Rattle.refusals.specs.Refusals.{refused}
use Rattle.rows.specs.Layouts.{Lent, shape_refusal, SameRows}
use Rattle.rows.proofs.Fold.{others_pass, held_last}
use Rattle.rows.proofs.Checks as checks
use Rattle.refinement.specs.declared.Refined.{Refined}
use Rattle.refinement.specs.Refinement.{refine_refusal_of, final_marks, handed, refined_of, refined_space_of}
use Rattle.refinement.proofs.Refinement.{at_once_length, handed_whole, refine_answered, refining, refinable}
use Rattle.refinement.proofs.Demands.{at_once_alike}
use Rattle.refinement.proofs.Alike.{final_marks_alike, handed_alike}
use Rattle.refinement.proofs.Layouts.{refine_refusal_same, refine_by_shape}
use Rattle.grammar.specs.declared.Written.{Written}
use Rattle.grammar.specs.Sheets.{write_answer}
use Rattle.grammar.proofs.Refusals.{write_refused}
use Rattle.grammar.proofs.Entries.{written_number}
use Rattle.report.specs.Lines.{result_length, result_bytes}
use Rattle.report.specs.Result.{result_of, Reportable, write_result_of, result_space_of, write_result_in, result_after_in}
use Rattle.report.proofs.Text.{text_front, result_length_lem}

-- A result sheet has the length that its rows say.
pub result_of_length : (s : Sheet) (m method : ℕ) → length (result_of s m method) ≡ result_length s.rows
unfolding result_of
result_of_length s m method = result_length_lem s.rows (final_marks at_once s m method) (handed at_once s m method)

module _ (broken : Bool) (s : Sheet) (m method room : ℕ) where
  -- What is reported can be refined into 64 words.
  pub refines : Reportable broken s m method room → (refine_refusal_of broken s m method 64 s.rows).number ≡ 0
  refines facts =
      ap (λ (r : Refusal). r.number)
      (refinable broken s m method 64 s.rows (record { posed = facts.posed; enough = few_rows s facts.posed.sizes }))

  -- Allowed rows with processors and method allowed are refused only for want of room.
  pub room_decides : broken ≡ false → Allowed s → processors_refusal m ≡ 0 → method_refusal method ≡ 0
      → refine_refusal_of broken s m method room (result_length s.rows) ≡ refused (room_refusal room (result_length s.rows)) 0
  unfolding refine_refusal_of
  room_decides laid sizes four five =
      checks.own_decides broken s _ laid sizes
      ∙ ap (λ (n : ℕ). refused n 0)
      (others_pass (processors_refusal m) _ four
      ∙ others_pass (method_refusal method) _ five
      ∙ sym (held_last (room_refusal room (result_length s.rows)) refl))

  -- Writing is not refused exactly where everything asked for holds.
  pub result_not-refused : ((write_result_of (refine_refusal_of broken s m method room (result_length s.rows)) s).refusal ≡ 0)
      ↔ Reportable broken s m method room
  unfolding write_result_of
  result_not-refused =
      let need = result_length s.rows in
      let number = written_number (refine_refusal_of broken s m method room need) need in (
        λ zero. refining broken s m method room need (sym number ∙ zero),
        λ facts. number ∙ ap (λ (r : Refusal). r.number) (refinable broken s m method room need facts),
      )

-- What it leaves where it is not refused: the sheet in front of what stood behind it.
pub result_leaves : (refusal : Refusal) (s : Sheet) (m method : ℕ) (out : List ℕ) → refusal.number ≡ 0
    → result_space_of refusal s m method out ≡ result_of s m method ++ drop (length (result_of s m method)) out
unfolding result_space_of
result_leaves refusal s m method out zero = sym (front_put refusal.number (result_of s m method) out zero)

module _ (refusal : Refusal) (s : Sheet) (m method : ℕ) (out : List ℕ) (passed : refusal.number ≡ 0) (r : Refined) (after : List ℕ)
    (answered : r ≡ refined_of at_once refusal s m method) (written : after ≡ refined_space_of at_once refusal s m method out) where
  -- One word is handed out for each row.
  one_each : length (handed at_once s m method) ≡ s.rows
  one_each = ap length (sym (handed_whole at_once s m method)) ∙ at_once_length s m method

  -- What refining answered and wrote, where it was not refused.
  marks_are : r.marks ≡ final_marks at_once s m method
  marks_are = ap (λ (x : Refined). x.marks) (answered ∙ sym (refine_answered at_once refusal s m method out passed _ s.rows _ refl refl one_each).0)

  words_are : after ≡ handed at_once s m method ++ drop s.rows out
  words_are = written ∙ sym (refine_answered at_once refusal s m method out passed _ s.rows _ refl refl one_each).1

  -- There is a word for each row.
  pub word_each : s.rows ≤ length after
  word_each = omega (arith, ap length words_are, length-append (handed at_once s m method) (drop s.rows out), one_each)

  -- The lines from them are the result sheet.
  pub refined_text : (rows : ℕ) → rows ≡ s.rows → result_bytes rows r.marks after ≡ result_of s m method
  unfolding result_of
  refined_text rows is_rows =
      ap (λ (n : ℕ). result_bytes n r.marks after) is_rows
      ∙ ap₂ (result_bytes s.rows) marks_are words_are
      ∙ text_front s.rows (final_marks at_once s m method) (handed at_once s m method) (drop s.rows out) one_each

-- An equal refusal and alike sheets are answered alike, and leave equal bytes.
module _ (s t : Sheet) (alike : Alike s t) (refusal : Refusal) where
  pub written_alike : write_result_of refusal s ≡ write_result_of refusal t
  unfolding write_result_of
  written_alike = ap (λ (n : ℕ). write_answer refusal (result_length n)) alike.rows

  pub bytes_alike : (m method : ℕ) (out : List ℕ) → result_space_of refusal s m method out ≡ result_space_of refusal t m method out
  unfolding result_space_of result_of
  bytes_alike m method out =
      ap (λ (l : List ℕ). at_front refusal.number l out)
      (ap (λ (n : ℕ). result_bytes n (final_marks at_once s m method) (handed at_once s m method)) alike.rows
      ∙ ap₂ (result_bytes t.rows) (final_marks_alike s t alike m method at_once at_once_alike) (handed_alike s t alike m method at_once at_once_alike))

-- So the same rows are answered the same, and leave the same bytes, whatever their layouts.
module _ (one other : Lent) (same : SameRows one other) (m method : ℕ) where
  pub written_same : (room : ℕ) → write_result_in one m method room ≡ write_result_in other m method room
  written_same room =
      written_alike one.sheet other.sheet same.alike _
      ∙ ap (λ (r : Refusal). write_result_of r other.sheet) (refine_refusal_same one other same m method room result_length)

  pub bytes_same : (out : List ℕ) → result_after_in one m method out ≡ result_after_in other m method out
  bytes_same out =
      bytes_alike one.sheet other.sheet same.alike _ m method out
      ∙ ap (λ (r : Refusal). result_space_of r other.sheet m method out) (refine_refusal_same one other same m method _ result_length)

-- And rows that 2 or 3 refuses are answered so, and leave the bytes as they were.
module _ (lent : Lent) (m method shape : ℕ) (is_shape : shape ≡ shape_refusal lent) (held : shape ≡ 0 → ⊥) where
  pub written_by_shape : (room : ℕ) → ◌≡◌ {A = Written} (record { refusal = shape; place = 0; length = 0 }) (write_result_in lent m method room)
  unfolding write_result_of
  written_by_shape room =
      write_refused (refused shape 0) _ held
      ∙ ap (λ (r : Refusal). write_answer r (result_length lent.sheet.rows)) (refine_by_shape lent m method shape is_shape held room _)

  pub bytes_by_shape : (out : List ℕ) → out ≡ result_after_in lent m method out
  unfolding result_space_of
  bytes_by_shape out =
      front_left shape (result_of lent.sheet m method) out held
      ∙ ap (λ (r : Refusal). at_front r.number (result_of lent.sheet m method) out) (refine_by_shape lent m method shape is_shape held _ _)
