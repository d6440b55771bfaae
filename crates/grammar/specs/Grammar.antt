-- Sheet lines: what may stand at each offset of a task sheet, and the first offset that is wrong.
use Rattle.std.specs.Prelude.{Bool, false, not, List, ℕ, ◌+◌, ◌*◌, ◌-◌, ◌%◌, eqb, ltb, length, get_or}
use Rattle.std.proofs.Math.Option.{Option}
use Rattle.laws.specs.Choice.{pick}
use Rattle.laws.specs.Search.{least}
use Rattle.digits.specs.Digits.{is_digit, number}

-- The length of line one: `01`, processors (2 digits), rows (2 digits), one byte 0A.
unfoldable pub head : ℕ
head = 7

-- The length of a row's line: `02`, then C, D, T with 6 digits each, one byte 0A.
unfoldable pub line : ℕ
line = 21

-- A sheet of n rows has 7 + 21n bytes.
unfoldable pub sheet_length : ℕ → ℕ
sheet_length rows = head + line * rows

-- Whether a byte may stand at a place of a line that has its 0A at `last`: `0`, the line's kind, digits, 0A.
unfoldable pub line_allows : ℕ → ℕ → ℕ → ℕ → Bool
line_allows kind last place byte =
    pick (eqb place 0) (eqb byte 0x30)
    (pick (eqb place 1) (eqb byte kind)
    (pick (eqb place last) (eqb byte 0x0A)
    (is_digit byte)))

-- Whether a byte may stand at an offset of a sheet that announces so many rows: line one is of kind `1`, then one line of kind `2` a row,
-- and nothing follows the last line.
unfoldable pub sheet_allows : ℕ → ℕ → ℕ → Bool
sheet_allows rows offset byte =
    pick (ltb offset head) (line_allows 0x31 (head - 1) offset byte)
    (pick (ltb offset (sheet_length rows)) (line_allows 0x32 (line - 1) ((offset - head) % line) byte)
    false)

-- Line one as written: processors, then rows, 0 to 255 each where their digits are digits.
unfoldable pub processors_written : List ℕ → ℕ
processors_written bytes = number bytes 2 2

unfoldable pub rows_written : List ℕ → ℕ
rows_written bytes = number bytes 4 2

-- An offset is wrong where the byte that stands there may not, and where the bytes end short of the length that they announce.
unfoldable pub wrong_at : List ℕ → ℕ → Bool
wrong_at bytes offset =
    pick (ltb offset (length bytes)) (not (sheet_allows (rows_written bytes) offset (get_or bytes offset 0)))
    (ltb offset (sheet_length (rows_written bytes)))

-- The first wrong offset, if there is one: no offset past the announced length is looked at, since anything at that length is wrong.
unfoldable pub first_wrong : List ℕ → Option ℕ
first_wrong bytes = least (wrong_at bytes) 0 (sheet_length (rows_written bytes) + 1)
