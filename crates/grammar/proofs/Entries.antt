-- What reading and writing return and leave behind, by what the input is: not refused exactly where everything asked for holds, and
-- refusal 1 exactly where the bytes break the form, at the place where they do.
use mathlib.Core.Path.{◌≡◌, refl, sym, ◌∙◌, ap, ap₂}
use mathlib.Core.Bool.{Bool, true, false}
use mathlib.Core.List.{List, ◌++◌}
use mathlib.Core.Option.{Option, none, some}
use mathlib.Core.Logic.{◌↔◌}
use Prim.Native.Nat.{ℕ, ◌*◌}
use native.Mathlib.Omega.{arith}
use lib.Dec.{eqb, ltb}
use lib.ListN.{length, take, drop}
use lib.Seq.{take_at}
use Rattle.laws.specs.Choice.{pick}
use Rattle.laws.proofs.Fill.{front_put}
use Rattle.laws.proofs.Choice.{number_kept, zero_where_refused}
use Rattle.model.specs.Sheet.{processors_allowed}
use Rattle.refusals.specs.Refusals.{Refusal}
use Rattle.rows.specs.Words.{sheet_of}
use Rattle.rows.specs.Checks.{processors_refusal, room_refusal, first_of, first_held}
use Rattle.refusals.specs.Refusals.{refused, not_refused}
use Rattle.rows.proofs.Checks.{each_number}
use Rattle.grammar.specs.declared.Read.{Read}
use Rattle.grammar.specs.declared.Written.{Written}
use Rattle.grammar.specs.Grammar.{sheet_length, processors_written, rows_written, first_wrong}
use Rattle.grammar.specs.Lines.{sheet_bytes, words_written}
use Rattle.grammar.specs.Meaning.{Breaks, Readable, Writable}
use Rattle.grammar.specs.Sheets.{between_refusal, formed_refusal, form_refusal, read_refusal, read_refused, read_answer, read_sheet, words_after, rows_read, write_refusal, write_answer, write_sheet, bytes_after}
use Rattle.grammar.proofs.Meaning.{form_means, form_fixed}
use Rattle.grammar.proofs.Refusals.{passed, passes, words_length, read_refused_lem, read_accepted, write_accepted, form_wrong, form_right}

pub read_number : (bytes : List ℕ) (room : ℕ) → (read_sheet bytes room).refusal ≡ (read_refusal bytes room).number
unfolding read_sheet read_answer
read_number bytes room = number_kept {A = Read} (λ r. r.refusal) (read_refusal bytes room).number _ _ refl refl

pub written_number : (refusal : Refusal) (size : ℕ) → (write_answer refusal size).refusal ≡ refusal.number
unfolding write_answer
written_number refusal size = number_kept {A = Written} (λ r. r.refusal) refusal.number _ _ refl refl

pub write_number : (words : List ℕ) (processors room : ℕ) → (write_sheet words processors room).refusal ≡ (write_refusal words processors room).number
unfolding write_sheet
write_number words processors room = written_number (write_refusal words processors room) (sheet_length (sheet_of words).rows)

-- Refused, every number but the refusal's own number and place is 0.
pub read_zeros : (bytes : List ℕ) (room : ℕ) → ((read_sheet bytes room).refusal ≡ 0 → ⊥)
    → ((read_sheet bytes room).processors ≡ 0) × ((read_sheet bytes room).rows ≡ 0)
unfolding read_sheet read_answer
read_zeros bytes room one_holds = (
  zero_where_refused {A = Read} (λ r. r.refusal) (λ r. r.processors) (read_refusal bytes room).number _ _ refl refl one_holds,
  zero_where_refused {A = Read} (λ r. r.refusal) (λ r. r.rows) (read_refusal bytes room).number _ _ refl refl one_holds,
)

pub written_zero : (refusal : Refusal) (size : ℕ) → ((write_answer refusal size).refusal ≡ 0 → ⊥) → (write_answer refusal size).length ≡ 0
unfolding write_answer
written_zero refusal size = zero_where_refused {A = Written} (λ r. r.refusal) (λ r. r.length) refusal.number _ _ refl refl

-- A reading that is not refused found all of it; and where all of it holds there is no refusal.
formed_only : (later : Refusal) (r : Option ℕ) → (form_refusal r later).number ≡ 0 → (r ≡ none) × (later.number ≡ 0)
unfolding form_refusal
formed_only later none none_holds = (refl, none_holds)
formed_only later (some place) none_holds = absurd (omega arith)

pub read_found : (bytes : List ℕ) (room : ℕ) → (read_sheet bytes room).refusal ≡ 0 → Readable bytes room
unfolding read_refusal formed_refusal
read_found bytes room none_holds =
    let both = formed_only (formed_refusal bytes room) (first_wrong bytes) (sym (read_number bytes room) ∙ none_holds) in
    record {
      formed = rw both.0 at (form_means bytes);
      passed = passed _ _ (processors_written bytes) room (3 * rows_written bytes) both.1;
    }

readable : (bytes : List ℕ) (room : ℕ) → Readable bytes room → read_refusal bytes room ≡ not_refused
unfolding formed_refusal
readable bytes room facts =
    form_right bytes room (form_fixed bytes none facts.formed)
    ∙ passes _ _ (processors_written bytes) room (3 * rows_written bytes) facts.passed

-- So a reading is not refused exactly where all of it holds.
pub read_not-refused : (bytes : List ℕ) (room : ℕ) → ((read_sheet bytes room).refusal ≡ 0) ↔ Readable bytes room
read_not-refused bytes room =
    (read_found bytes room, λ facts. read_number bytes room ∙ ap (λ (f : Refusal). f.number) (readable bytes room facts))

-- What a readable sheet returns and leaves in the lent words.
pub read_answers : (bytes : List ℕ) (room : ℕ) → Readable bytes room
    → read_sheet bytes room ≡ record { refusal = 0; place = 0; processors = processors_written bytes; rows = rows_written bytes }
unfolding read_sheet
read_answers bytes room facts = sym (read_accepted (read_refusal bytes room) bytes (ap (λ (f : Refusal). f.number) (readable bytes room facts)))

pub read_leaves : (bytes words : List ℕ) → Readable bytes (length words)
    → words_after bytes words ≡ words_written bytes ++ drop (length (words_written bytes)) words
unfolding words_after
read_leaves bytes words facts =
    sym
    (front_put (read_refusal bytes (length words)).number (words_written bytes) words
    (ap (λ (f : Refusal). f.number) (readable bytes (length words) facts)))

-- Its parts: processors and rows as written, and the words of the rows.
module _ (bytes words : List ℕ) (facts : Readable bytes (length words)) where
  pub processors_read : (read_sheet bytes (length words)).processors ≡ processors_written bytes
  processors_read = ap (λ (r : Read). r.processors) (read_answers bytes (length words) facts)

  pub rows_read_lem : (read_sheet bytes (length words)).rows ≡ rows_written bytes
  rows_read_lem = ap (λ (r : Read). r.rows) (read_answers bytes (length words) facts)

  pub words_read : rows_read bytes words ≡ words_written bytes
  words_read =
      ap₂ take (ap (λ (n : ℕ). 3 * n) rows_read_lem) (read_leaves bytes words facts)
      ∙ take_at (words_written bytes) (drop (length (words_written bytes)) words) (3 * rows_written bytes) (words_length bytes)

pub write_found : (words : List ℕ) (processors room : ℕ) → (write_sheet words processors room).refusal ≡ 0 → Writable words processors room
unfolding write_refusal
write_found words processors room none_holds =
    passed _ _ processors room (sheet_length (sheet_of words).rows) (sym (write_number words processors room) ∙ none_holds)

writable : (words : List ℕ) (processors room : ℕ) → Writable words processors room → write_refusal words processors room ≡ not_refused
unfolding write_refusal
writable words processors room facts = passes _ _ processors room (sheet_length (sheet_of words).rows) facts

pub write_not-refused : (words : List ℕ) (processors room : ℕ) → ((write_sheet words processors room).refusal ≡ 0) ↔ Writable words processors room
write_not-refused words processors room =
    (write_found words processors room, λ facts. write_number words processors room ∙ ap (λ (f : Refusal). f.number) (writable words processors room facts))

pub write_answers : (words : List ℕ) (processors room : ℕ) → Writable words processors room
    → write_sheet words processors room ≡ record { refusal = 0; place = 0; length = sheet_length (sheet_of words).rows }
unfolding write_sheet
write_answers words processors room facts =
    sym
    (write_accepted (write_refusal words processors room) (sheet_length (sheet_of words).rows)
    (ap (λ (f : Refusal). f.number) (writable words processors room facts)))

pub write_leaves : (words : List ℕ) (processors : ℕ) (out : List ℕ) → Writable words processors (length out)
    → let sheet = sheet_bytes (sheet_of words) processors in
    bytes_after words processors out ≡ sheet ++ drop (length sheet) out
unfolding bytes_after
write_leaves words processors out facts =
    sym
    (front_put (write_refusal words processors (length out)).number (sheet_bytes (sheet_of words) processors) out
    (ap (λ (f : Refusal). f.number) (writable words processors (length out) facts)))

-- No check after the form has number 1.
between_not_one : (processors room need : ℕ) → between_refusal processors room need ≡ 1 → ⊥
unfolding between_refusal first_held first_of processors_refusal room_refusal
between_not_one processors room need = split (processors_allowed processors) (ltb room need)
  where
    split : (allowed short : Bool)
        → ◌≡◌ {A = ℕ} (pick (eqb (pick allowed 0 4) 0) (pick (eqb (pick short 7 0) 0) 0 (pick short 7 0)) (pick allowed 0 4)) 1 → ⊥
    split true true one = omega arith
    split true false one = omega arith
    split false short one = omega arith

-- Wherever the bytes break the form, refusal 1 is given, and the place is where they do.
pub broken_refused : (bytes : List ℕ) (room place : ℕ) → Breaks bytes place → read_sheet bytes room ≡ read_refused 1 place
unfolding read_sheet
broken_refused bytes room place breaks =
    ap (λ (f : Refusal). read_answer f bytes) (form_wrong bytes room place (form_fixed bytes (some place) breaks))
    ∙ sym (read_refused_lem (refused 1 place) bytes (λ none_holds. omega arith))

-- And nowhere else is it given.
pub read_broken : (bytes : List ℕ) (room : ℕ) → (read_sheet bytes room).refusal ≡ 1 → Breaks bytes (read_sheet bytes room).place
unfolding formed_refusal
read_broken bytes room one = split (first_wrong bytes) refl
  where
    split : (r : Option ℕ) → first_wrong bytes ≡ r → Breaks bytes (read_sheet bytes room).place
    split none right =
        absurd
        (each_number (λ n. n ≡ 1 → ⊥) _ _ _ (λ zero. omega arith) (λ two. omega arith) (λ three. omega arith)
        (between_not_one (processors_written bytes) room (3 * rows_written bytes)) (λ eight. omega arith)
        (rw (form_right bytes room right) at (sym (read_number bytes room) ∙ one)))
    split (some place) wrong =
        let breaks : Breaks bytes place = rw wrong at (form_means bytes) in
        rw (broken_refused bytes room place breaks) breaks
