-- The whole answer: a refused sheet gets its line, and a sheet that was read is refused later only for want of room. Letter case changes
-- nothing in it.
use mathlib.Core.Path.{◌≡◌, refl, sym, ◌∙◌, ap, ap₂}
use mathlib.Core.List.{List, ◌++◌, map}
use mathlib.Core.Logic.{◌↔◌}
use Prim.Native.Nat.{ℕ, ◌*◌, ◌≤◌}
use native.Mathlib.Decide.{ℕ_discrete}
use native.Mathlib.Omega.{arith}
use lib.ListN.{length, take, drop}
use Rattle.laws.specs.Fill.{at_front}
use Rattle.laws.proofs.Choice.{not-refused, is_refused, one_answer}
use Rattle.laws.proofs.Fill.{front_put}
use Rattle.refusals.specs.Refusals.{Refusal}
use Rattle.model.specs.Sheet.{Sheet}
use Rattle.model.proofs.Sheet.{few_rows}
use Rattle.rows.specs.Words.{sheet_of}
use Rattle.rows.specs.Checks.{method_refusal, room_refusal}
use Rattle.refusals.specs.Refusals.{refused}
use Rattle.rows.proofs.Checks.{allowed_processors, enough_room, room_enough}
use Rattle.digits.specs.Digits.{upper}
use Rattle.grammar.specs.declared.Read.{Read}
use Rattle.grammar.specs.declared.Written.{Written}
use Rattle.grammar.specs.Grammar.{processors_written, rows_written}
use Rattle.grammar.specs.Lines.{words_written}
use Rattle.grammar.specs.Sheets.{read_refusal, read_sheet, words_after, write_answer}
use Rattle.grammar.specs.Meaning.{Readable}
use Rattle.grammar.proofs.Refusals.{read_refused_lem, write_accepted}
use Rattle.grammar.proofs.LetterCase.{processors_upper, words_upper, refusal_upper}
use Rattle.grammar.proofs.Entries.{read_number, read_found, read_answers, words_read, written_number}
use Rattle.report.specs.Lines.{result_head, result_line, result_length, refusal_line}
use Rattle.report.specs.Result.{result_of, write_result_of, result_space_of, write_result, result_after, most_words, answer_text, answer_refusal, answer_sheet, answer_after}
use Rattle.report.proofs.Text.{refusal_length, result_in_upper, refusal_in_upper}
use Rattle.report.proofs.Entries.{room_decides, result_of_length}

-- Method 1 is not refused.
method_one : method_refusal 1 ≡ 0
unfolding method_refusal
method_one = refl

-- What is answered and left by a text of so many bytes, where that text is the answer.
fitted : (bytes text out : List ℕ) (size : ℕ) → answer_text bytes ≡ text → length text ≡ size
    → (write_answer (refused (room_refusal (length out) size) 0) size ≡ answer_sheet bytes (length out))
    × (at_front (room_refusal (length out) size) text out ≡ answer_after bytes out)
unfolding answer_sheet answer_after answer_refusal
fitted bytes text out size is_text is_size =
    let whole : size ≡ length (answer_text bytes) = sym (ap length is_text ∙ is_size) in (
      ap (λ (n : ℕ). write_answer (refused (room_refusal (length out) n) 0) n) whole,
      ap₂ (λ (n : ℕ) (l : List ℕ). at_front (room_refusal (length out) n) l out) whole (sym is_text),
    )

-- A refused sheet: its number and place go into its line.
pub refused-answer : (bytes out : List ℕ) (read : Read) → read ≡ read_sheet bytes 192 → (read.refusal ≡ 0 → ⊥)
    → (write_answer (refused (room_refusal (length out) 9) 0) 9 ≡ answer_sheet bytes (length out))
    × (at_front (room_refusal (length out) 9) (refusal_line read.refusal read.place) out ≡ answer_after bytes out)
unfolding answer_text most_words read_sheet
refused-answer bytes out read is_read one_holds =
    let refusal = read_refusal bytes 192 in
    let number : read.refusal ≡ refusal.number = ap (λ (r : Read). r.refusal) is_read ∙ read_number bytes 192 in
    let holds : refusal.number ≡ 0 → ⊥ = λ zero. one_holds (number ∙ zero) in
    let place : read.place ≡ refusal.place = ap (λ (r : Read). r.place) (is_read ∙ sym (read_refused_lem refusal bytes holds)) in
    fitted bytes (refusal_line read.refusal read.place) out 9
    (is_refused _ _ _ holds ∙ ap₂ refusal_line (sym number) (sym place)) (refusal_length read.refusal read.place)

module _ (bytes zeros : List ℕ) (whole : length zeros ≡ 192) (read : Read) (is_read : read ≡ read_sheet bytes 192) (accepted : read.refusal ≡ 0) where
  -- The sheet has all that is asked of it.
  facts : Readable bytes 192
  facts = read_found bytes 192 (sym (ap (λ (r : Read). r.refusal) is_read) ∙ accepted)

  rows_are : read.rows ≡ rows_written bytes
  rows_are = ap (λ (r : Read). r.rows) (is_read ∙ read_answers bytes 192 facts)

  processors_are : read.processors ≡ processors_written bytes
  processors_are = ap (λ (r : Read). r.processors) (is_read ∙ read_answers bytes 192 facts)

  -- The words at the front are the sheet's.
  pub words_are : take (3 * read.rows) (words_after bytes zeros) ≡ words_written bytes
  words_are =
      ap (λ (r : Read). take (3 * r.rows) (words_after bytes zeros)) (is_read ∙ ap (read_sheet bytes) (sym whole))
      ∙ words_read bytes zeros (rw whole facts)

  pub words_room : 3 * read.rows ≤ 192
  words_room = rw rows_are facts.passed.enough

  -- What writing their result answers and leaves is the answer.
  pub accepted-answer : (out : List ℕ)
      → (write_result (take (3 * read.rows) (words_after bytes zeros)) read.processors 1 (length out) ≡ answer_sheet bytes (length out))
      × (result_after (take (3 * read.rows) (words_after bytes zeros)) read.processors 1 out ≡ answer_after bytes out)
  unfolding answer_text most_words write_result_of result_space_of
  accepted-answer out =
      let s = sheet_of (words_written bytes) in
      let m = processors_written bytes in
      let only = room_decides _ s m 1 (length out) facts.passed.laid facts.passed.sizes (allowed_processors m facts.passed.allowed) method_one in
      let fits = fitted bytes (result_of s m 1) out (result_length s.rows)
      (not-refused _ _ _ (sym (read_number bytes 192) ∙ sym (ap (λ (r : Read). r.refusal) is_read) ∙ accepted)) (result_of_length s m 1) in
      rw (words_are, processors_are) (
        ap (λ (r : Refusal). write_answer r (result_length s.rows)) only ∙ fits.0,
        ap (λ (r : Refusal). at_front r.number (result_of s m 1) out) only ∙ fits.1,
      )

-- No answer is longer than the result sheet of 64 rows: a refused sheet's line is shorter, and a sheet that was read has no more rows.
pub longest_answer : (bytes : List ℕ) → length (answer_text bytes) ≤ result_length 64
unfolding answer_text most_words result_length result_head result_line
longest_answer bytes = decided (ℕ_discrete (read_refusal bytes 192).number 0)
  where
    decided : Dec ((read_refusal bytes 192).number ≡ 0) → length (answer_text bytes) ≤ result_length 64
    decided (yes zero) =
        let s = sheet_of (words_written bytes) in
        let facts = read_found bytes 192 (read_number bytes 192 ∙ zero) in
        rw (not-refused _ _ _ zero, result_of_length s (processors_written bytes) 1) (omega (arith, few_rows s facts.passed.sizes))
    decided (no one_holds) = rw (is_refused _ _ _ one_holds, refusal_length) (omega arith)

-- An answer that fits is given: its whole text stands at the front of the output, and its length is returned.
pub whole_answer : (bytes out : List ℕ) → length (answer_text bytes) ≤ length out
    → (answer_sheet bytes (length out) ≡ record { refusal = 0; place = 0; length = length (answer_text bytes) })
    × (answer_after bytes out ≡ answer_text bytes ++ drop (length (answer_text bytes)) out)
unfolding answer_sheet answer_after answer_refusal
whole_answer bytes out enough =
    let room = enough_room (length out) (length (answer_text bytes)) enough in (
      sym (write_accepted (answer_refusal bytes (length out)) (length (answer_text bytes)) room),
      sym (front_put (answer_refusal bytes (length out)).number (answer_text bytes) out room),
    )

-- An answer is in upper case, refused or not.
pub answer_in_upper : (bytes : List ℕ) → map upper (answer_text bytes) ≡ answer_text bytes
unfolding answer_text result_of
answer_in_upper bytes = decided (ℕ_discrete (read_refusal bytes most_words).number 0)
  where
    decided : Dec ((read_refusal bytes most_words).number ≡ 0) → map upper (answer_text bytes) ≡ answer_text bytes
    decided (yes zero) = rw (not-refused _ _ _ zero) (result_in_upper _ _ _)
    decided (no one_holds) = rw (is_refused _ _ _ one_holds) (refusal_in_upper _ _)

-- Letter case changes no answer: any bytes are answered as the same bytes in upper case are.
text_upper : (bytes : List ℕ) → answer_text (map upper bytes) ≡ answer_text bytes
unfolding answer_text
text_upper bytes = rw (refusal_upper bytes most_words, words_upper bytes, processors_upper bytes)

pub answer-upper : (bytes : List ℕ) (room : ℕ) → answer_sheet (map upper bytes) room ≡ answer_sheet bytes room
unfolding answer_sheet answer_refusal
answer-upper bytes room = rw (text_upper bytes)

pub answer_after_upper : (bytes out : List ℕ) → answer_after (map upper bytes) out ≡ answer_after bytes out
unfolding answer_after answer_refusal
answer_after_upper bytes out = rw (text_upper bytes)

-- An answer is refused only where it does not fit.
pub answer-not-refused : (bytes : List ℕ) (room : ℕ) → ((answer_sheet bytes room).refusal ≡ 0) ↔ (length (answer_text bytes) ≤ room)
unfolding answer_sheet answer_refusal
answer-not-refused bytes room = (
  λ zero. room_enough room (length (answer_text bytes)) (sym (written_number (answer_refusal bytes room) (length (answer_text bytes))) ∙ zero),
  λ fits. written_number (answer_refusal bytes room) (length (answer_text bytes)) ∙ enough_room room (length (answer_text bytes)) fits,
)

-- Two results that the contracts allow are equal, and so are two written texts.
pub write_result_unique : (refusal : Refusal) (s : Sheet) (first second : Written) → first ≡ write_result_of refusal s → second ≡ write_result_of refusal s
    → first ≡ second
write_result_unique refusal s first second = one_answer

pub result_after_unique : (refusal : Refusal) (s : Sheet) (m method : ℕ) (out first second : List ℕ) → first ≡ result_space_of refusal s m method out
    → second ≡ result_space_of refusal s m method out → first ≡ second
result_after_unique refusal s m method out first second = one_answer

pub answer_unique : (bytes : List ℕ) (room : ℕ) (first second : Written) → first ≡ answer_sheet bytes room → second ≡ answer_sheet bytes room
    → first ≡ second
answer_unique bytes room first second = one_answer

pub answer_after_unique : (bytes out first second : List ℕ) → first ≡ answer_after bytes out → second ≡ answer_after bytes out → first ≡ second
answer_after_unique bytes out first second = one_answer
