-- Letter case changes nothing that is read: at each offset the same may stand in either case, and each number is the same. So any bytes,
-- right or wrong, are read as the same bytes in upper case are. What is written is in upper case, line by line.
use mathlib.Core.Path.{◌≡◌}
use mathlib.Core.List.{List, map}
use Prim.Native.Nat.{ℕ, ◌+◌, ◌*◌, ◌-◌, ◌%◌, ◌<◌}
use native.Mathlib.Omega.{arith}
use lib.ListN.{length, get_or, length-map}
use Rattle.laws.proofs.Choice.{same_after}
use Rattle.laws.proofs.Fill.{listed_same}
use Rattle.laws.proofs.Search.{least-same}
use Rattle.laws.proofs.Cuts.{mapped_append, mapped_joined}
use Rattle.model.specs.Sheet.{Sheet}
use Rattle.digits.specs.Digits.{is_digit, upper}
use Rattle.digits.proofs.Upper.{upper_value, upper_apart, upper_at_lem}
use Rattle.digits.proofs.Number.{number-upper, digits-upper}
use Rattle.digits.proofs.Line.{with_digits-upper, line-upper}
use Rattle.grammar.specs.Grammar.{head, line, sheet_length, line_allows, sheet_allows, processors_written, rows_written, wrong_at, first_wrong}
use Rattle.grammar.specs.Lines.{first_line, row_line, line_of, sheet_bytes, word_offset, word_written, words_written}
use Rattle.grammar.specs.Sheets.{formed_refusal, read_refusal, read_answer, read_sheet, words_after}

-- The same may stand at each place of a line, and at each offset of a sheet.
place_upper : (kind last place byte : ℕ) → kind < 0x41 → line_allows kind last place (upper byte) ≡ line_allows kind last place byte
unfolding line_allows is_digit
place_upper kind last place byte sign =
    rw (upper_apart byte 0x30 (omega arith), upper_apart byte kind sign, upper_apart byte 0x0A (omega arith), upper_value byte)

allowed_upper : (rows offset byte : ℕ) → sheet_allows rows offset (upper byte) ≡ sheet_allows rows offset byte
unfolding sheet_allows
allowed_upper rows offset byte =
    rw (place_upper 0x31 (head - 1) offset byte (omega arith), place_upper 0x32 (line - 1) ((offset - head) % line) byte (omega arith))

pub allowed_alike : (rows offset byte other : ℕ) → upper byte ≡ upper other → sheet_allows rows offset byte ≡ sheet_allows rows offset other
allowed_alike rows offset = same_after upper (sheet_allows rows offset) (allowed_upper rows offset)

-- The numbers of line one and of the rows.
pub processors_upper : (bytes : List ℕ) → processors_written (map upper bytes) ≡ processors_written bytes
unfolding processors_written
processors_upper bytes = number-upper bytes 2 2

pub rows_upper : (bytes : List ℕ) → rows_written (map upper bytes) ≡ rows_written bytes
unfolding rows_written
rows_upper bytes = number-upper bytes 4 2

pub words_upper : (bytes : List ℕ) → words_written (map upper bytes) ≡ words_written bytes
unfolding words_written word_written
words_upper bytes = rw (rows_upper bytes) (listed_same _ _ (3 * rows_written bytes) (λ w h. number-upper bytes (word_offset w) 6))

-- The first wrong offset.
wrong_upper : (bytes : List ℕ) (offset : ℕ) → wrong_at (map upper bytes) offset ≡ wrong_at bytes offset
unfolding wrong_at
wrong_upper bytes offset =
    rw (rows_upper bytes, length-map bytes upper, upper_at_lem bytes offset, allowed_upper (rows_written bytes) offset (get_or bytes offset 0))

first_upper : (bytes : List ℕ) → first_wrong (map upper bytes) ≡ first_wrong bytes
unfolding first_wrong
first_upper bytes =
    rw (rows_upper bytes) (least-same _ _ 0 (sheet_length (rows_written bytes) + 1) (λ offset from below. wrong_upper bytes offset))

-- The refusal, the answer, and what is left in the lent words.
pub refusal_upper : (bytes : List ℕ) (room : ℕ) → read_refusal (map upper bytes) room ≡ read_refusal bytes room
unfolding read_refusal formed_refusal
refusal_upper bytes room = rw (first_upper bytes, words_upper bytes, processors_upper bytes, rows_upper bytes)

pub read_upper : (bytes : List ℕ) (room : ℕ) → read_sheet (map upper bytes) room ≡ read_sheet bytes room
unfolding read_sheet read_answer
read_upper bytes room = rw (refusal_upper bytes room, processors_upper bytes, rows_upper bytes)

pub words_after_upper : (bytes words : List ℕ) → words_after (map upper bytes) words ≡ words_after bytes words
unfolding words_after
words_after_upper bytes words = rw (refusal_upper bytes (length words), words_upper bytes)

-- What is written is in upper case.
pub written_upper : (s : Sheet) (processors : ℕ) → map upper (sheet_bytes s processors) ≡ sheet_bytes s processors
unfolding sheet_bytes first_line line_of row_line
written_upper s processors =
    mapped_append upper _ _ (line-upper _ (with_digits-upper _ 2 s.rows (with_digits-upper _ 2 processors (digits-upper 2 0x01))))
    (mapped_joined upper (line_of s) s.rows
    (λ k.
    line-upper _
    (with_digits-upper _ 6 (s.period k) (with_digits-upper _ 6 (s.deadline k) (with_digits-upper _ 6 (s.cost k) (digits-upper 2 0x02))))))
