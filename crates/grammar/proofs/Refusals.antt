-- The checks of reading and writing: what a refusal, and none, says of the answer and of the lent space.
use mathlib.Core.Path.{◌≡◌, sym, ◌∙◌}
use mathlib.Core.Bool.{Bool}
use mathlib.Core.List.{List, [], ◌∷◌}
use mathlib.Core.Option.{none, some}
use Prim.Native.Nat.{ℕ, ◌*◌, ◌<◌}
use native.Mathlib.Omega.{arith}
use lib.ListN.{length}
use Rattle.laws.proofs.Choice.{not-refused, is_refused}
use Rattle.laws.proofs.Fill.{listed-length, front_left}
use Rattle.laws.specs.Fill.{at_front}
use Rattle.refusals.specs.Refusals.{Refusal}
use Rattle.model.specs.Sheet.{Sheet, triples}
use Rattle.rows.specs.Words.{sheet_of}
use Rattle.rows.specs.Checks.{processors_refusal, room_refusal, laid_refusal, words_refusal}
use Rattle.refusals.specs.Refusals.{refused, not_refused}
use Rattle.rows.proofs.Fold.{none_held, held_none}
use Rattle.rows.proofs.Checks.{laid_words, accepted, accepted-passes, count_refused, processors_allowed_lem, allowed_processors, room_enough, enough_room}
use Rattle.grammar.specs.declared.Read.{Read}
use Rattle.grammar.specs.declared.Written.{Written}
use Rattle.grammar.specs.Grammar.{processors_written, rows_written, first_wrong}
use Rattle.grammar.specs.Lines.{word_written, words_written}
use Rattle.grammar.specs.Meaning.{RowsFit, WordsFit}
use Rattle.grammar.specs.Sheets.{between_refusal, formed_refusal, form_refusal, read_refusal, read_refused, read_answer, write_answer}

-- With number 0 each of them passed; and where each passes there is no refusal.
module _ (broken : Bool) (s : Sheet) (processors room need : ℕ) where
  pub passed : (laid_refusal broken s (between_refusal processors room need)).number ≡ 0 → RowsFit broken s processors room need
  unfolding between_refusal
  passed none_holds =
      let facts = accepted broken s _ none_holds in
      let own = none_held (processors_refusal processors ∷ room_refusal room need ∷ []) facts.none_held in
      record {
        laid = facts.laid;
        sizes = facts.sizes;
        allowed = processors_allowed_lem processors own.0;
        enough = room_enough room need own.1.0;
      }

  pub passes : RowsFit broken s processors room need → laid_refusal broken s (between_refusal processors room need) ≡ not_refused
  unfolding between_refusal
  passes facts =
      accepted-passes broken s _
      (record {
        laid = facts.laid;
        sizes = facts.sizes;
        none_held = held_none (processors_refusal processors ∷ room_refusal room need ∷ [])
            (allowed_processors processors facts.allowed, (enough_room room need facts.enough, tt));
      })

-- What reading returns, refused or not.
pub read_refused_lem : (refusal : Refusal) (bytes : List ℕ) → (refusal.number ≡ 0 → ⊥) → read_refused refusal.number refusal.place ≡ read_answer refusal bytes
unfolding read_answer
read_refused_lem refusal bytes one_holds = sym (is_refused _ _ _ one_holds)

pub read_accepted : (refusal : Refusal) (bytes : List ℕ) → refusal.number ≡ 0
    → record { refusal = 0; place = 0; processors = processors_written bytes; rows = rows_written bytes } ≡ read_answer refusal bytes
unfolding read_answer
read_accepted refusal bytes none_holds = sym (not-refused _ _ _ none_holds)

-- A refused reading: what it returns, and that it changes no word.
pub reading_refused : (refusal given : Refusal) (bytes words : List ℕ) (r : Read) → r ≡ read_refused refusal.number refusal.place
    → refusal ≡ given → (refusal.number ≡ 0 → ⊥) → (r ≡ read_answer given bytes) × (words ≡ at_front given.number (words_written bytes) words)
reading_refused refusal given bytes words r returned same one_holds =
    rw (← same)
    (returned ∙ read_refused_lem refusal bytes one_holds, front_left refusal.number (words_written bytes) words one_holds)

-- What writing returns, refused or not.
pub write_refused : (refusal : Refusal) (size : ℕ) → (refusal.number ≡ 0 → ⊥)
    → record { refusal = refusal.number; place = refusal.place; length = 0 } ≡ write_answer refusal size
unfolding write_answer
write_refused refusal size one_holds = sym (is_refused _ _ _ one_holds)

pub write_accepted : (refusal : Refusal) (size : ℕ) → refusal.number ≡ 0 → record { refusal = 0; place = 0; length = size } ≡ write_answer refusal size
unfolding write_answer
write_accepted refusal size none_holds = sym (not-refused _ _ _ none_holds)

-- A refused writing: what it returns, and that it changes no byte.
pub writing_refused : (refusal given : Refusal) (size : ℕ) (sheet out : List ℕ) (r : Written)
    → r ≡ record { refusal = refusal.number; place = refusal.place; length = 0 }
    → refusal ≡ given → (refusal.number ≡ 0 → ⊥) → (r ≡ write_answer given size) × (out ≡ at_front given.number sheet out)
writing_refused refusal given size sheet out r returned same one_holds =
    rw (← same)
    (returned ∙ write_refused refusal size one_holds, front_left refusal.number sheet out one_holds)

-- The words of a sheet are three a row.
pub words_length : (bytes : List ℕ) → length (words_written bytes) ≡ 3 * rows_written bytes
unfolding words_written
words_length bytes = listed-length (word_written bytes) (3 * rows_written bytes)

pub words_rows : (bytes : List ℕ) → (sheet_of (words_written bytes)).rows ≡ rows_written bytes
unfolding sheet_of triples
words_rows bytes = rw (words_length bytes) (omega arith)

-- A wrong offset is refusal 1 whatever else holds; without one the other checks decide.
pub form_wrong : (bytes : List ℕ) (room place : ℕ) → first_wrong bytes ≡ some place → read_refusal bytes room ≡ refused 1 place
unfolding read_refusal form_refusal
form_wrong bytes room place wrong = rw wrong

pub form_right : (bytes : List ℕ) (room : ℕ) → first_wrong bytes ≡ none → read_refusal bytes room ≡ formed_refusal bytes room
unfolding read_refusal form_refusal
form_right bytes room right = rw right

-- More than 64 rows are refused whatever comes after.
pub many_refused : (bytes : List ℕ) (room : ℕ) → 64 < rows_written bytes → formed_refusal bytes room ≡ refused 3 0
unfolding formed_refusal
many_refused bytes room many =
    count_refused _ (sheet_of (words_written bytes)) _ (laid_words _ (record { whole = rw words_rows (words_length bytes) })) (rw words_rows many)

-- The checks on the words that were read are those on the sheet.
pub judged_words : (bytes written : List ℕ) (processors room between : ℕ) → written ≡ words_written bytes
    → processors ≡ processors_written bytes → between ≡ between_refusal processors room (length written)
    → words_refusal written between ≡ formed_refusal bytes room
unfolding formed_refusal
judged_words bytes written processors room between is_written is_line is_between =
    rw (is_between, is_line, is_written, words_length bytes)

-- A sheet that is not refused passed its checks.
pub formed_passed : (bytes : List ℕ) (room : ℕ) → (formed_refusal bytes room).number ≡ 0
    → WordsFit (words_written bytes) (processors_written bytes) room (3 * rows_written bytes)
unfolding formed_refusal
formed_passed bytes room none_holds = passed _ _ (processors_written bytes) room (3 * rows_written bytes) none_holds
