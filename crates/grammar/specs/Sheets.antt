-- Reading and writing a sheet: the answer and the final contents of lent space, refused or not.
use Rattle.std.specs.Prelude.{◌≡◌, List, [], ◌∷◌, ℕ, ◌*◌, length, take}
use Rattle.std.proofs.Math.Option.{Option, none, some}
use Rattle.laws.specs.Choice.{unless_refused}
use Rattle.laws.specs.Fill.{at_front}
use Rattle.refusals.specs.Refusals.{Refusal}
use Rattle.rows.specs.Words.{sheet_of}
use Rattle.rows.specs.Checks.{processors_refusal, room_refusal, first_held, words_refusal}
use Rattle.refusals.specs.Refusals.{refused}
use Rattle.grammar.specs.declared.Read.{Read}
use Rattle.grammar.specs.declared.Written.{Written}
use Rattle.grammar.specs.Grammar.{sheet_length, processors_written, rows_written, first_wrong}
use Rattle.grammar.specs.Lines.{sheet_bytes, words_written}

-- 4 and 7, which come between the checks on the row count and those on the rows: processors, and room for so much.
unfoldable pub between_refusal : ℕ → ℕ → ℕ → ℕ
between_refusal processors room need = first_held (processors_refusal processors ∷ room_refusal room need ∷ [])

-- The checks on a sheet of the right form with so many words of room: 2, 3, 4, 7, 8.
unfoldable pub formed_refusal : List ℕ → ℕ → Refusal
formed_refusal bytes room =
    words_refusal (words_written bytes) (between_refusal (processors_written bytes) room (3 * rows_written bytes))

-- 1 comes first: the bytes break the line form, and the place is the first wrong offset.
unfoldable pub form_refusal : Option ℕ → Refusal → Refusal
form_refusal (some place) later = refused 1 place
form_refusal none later = later

-- The checks of reading: 1, 2, 3, 4, 7, 8.
unfoldable pub read_refusal : List ℕ → ℕ → Refusal
read_refusal bytes room = form_refusal (first_wrong bytes) (formed_refusal bytes room)

-- What reading returns where it refuses.
abbrev pub read_refused : ℕ → ℕ → Read
read_refused number place = record { refusal = number; place = place; processors = 0; rows = 0 }

-- What reading returns: processors and rows as written, or the refusal and 0 for both.
unfoldable pub read_answer : Refusal → List ℕ → Read
read_answer refusal bytes =
    unless_refused refusal.number (read_refused refusal.number refusal.place)
    (record { refusal = 0; place = 0; processors = processors_written bytes; rows = rows_written bytes })

-- Reading a sheet: what it returns, and what it leaves in the lent words.
unfoldable pub read_sheet : List ℕ → ℕ → Read
read_sheet bytes room = read_answer (read_refusal bytes room) bytes

unfoldable pub words_after : List ℕ → List ℕ → List ℕ
words_after bytes words = at_front (read_refusal bytes (length words)).number (words_written bytes) words

-- The words of the rows that were read: three a row, at the front of the lent words.
abbrev pub rows_read : List ℕ → List ℕ → List ℕ
rows_read bytes words = take (3 * (read_sheet bytes (length words)).rows) (words_after bytes words)

-- Two sheets read as equal, each into words of its own: the same processors, as many rows, and the same words of them.
pub record ReadAlike (bytes other words space : List ℕ) : Type 0 where
  pub processors : (read_sheet bytes (length words)).processors ≡ (read_sheet other (length space)).processors
  pub rows : (read_sheet bytes (length words)).rows ≡ (read_sheet other (length space)).rows
  pub each : rows_read bytes words ≡ rows_read other space

-- The checks of writing: 2, 3, 4, 7, 8.
unfoldable pub write_refusal : List ℕ → ℕ → ℕ → Refusal
write_refusal words processors room = words_refusal words (between_refusal processors room (sheet_length (sheet_of words).rows))

-- What writing returns: the number of bytes written, or the refusal and 0.
unfoldable pub write_answer : Refusal → ℕ → Written
write_answer refusal size =
    unless_refused refusal.number (record { refusal = refusal.number; place = refusal.place; length = 0 })
    (record { refusal = 0; place = 0; length = size })

-- Writing a sheet: what it returns, and what it leaves in the lent bytes.
unfoldable pub write_sheet : List ℕ → ℕ → ℕ → Written
write_sheet words processors room = write_answer (write_refusal words processors room) (sheet_length (sheet_of words).rows)

unfoldable pub bytes_after : List ℕ → ℕ → List ℕ → List ℕ
bytes_after words processors out = at_front (write_refusal words processors (length out)).number (sheet_bytes (sheet_of words) processors) out
