-- The lines of a result sheet, and of a refused one.
use Rattle.std.specs.Prelude.{List, [], ◌∷◌, ◌++◌, ℕ, ◌+◌, ◌*◌, get_or}
use Rattle.laws.specs.Fill.{joined}
use Rattle.laws.specs.Bits.{bit, bit_at, is_set, every}
use Rattle.digits.specs.Digits.{digits}

-- The length of line one: `11`, accepted (2 digits), rows (2 digits), one byte 0A.
unfoldable pub result_head : ℕ
result_head = 7

-- The length of a row's line: `12`, marked (2 digits), bound (6 digits), one byte 0A.
unfoldable pub result_line : ℕ
result_line = 11

-- A result sheet of n rows has 7 + 11n bytes.
unfoldable pub result_length : ℕ → ℕ
result_length rows = result_head + result_line * rows

-- Every line here: its kind and a small number (2 digits each), a number of so many digits, 0A.
unfoldable pub line_text : ℕ → ℕ → ℕ → ℕ → List ℕ
line_text kind small count value = digits 2 kind ++ digits 2 small ++ digits count value ++ (0x0A ∷ [])

-- Line one: `11`, accepted (`01` or `00`), rows (2 digits), 0A.
unfoldable pub result_first_line : ℕ → ℕ → List ℕ
result_first_line accepted rows = line_text 0x11 accepted 2 rows

-- A row's line: `12`, marked (`01` or `00`), bound (6 digits), 0A.
unfoldable pub result_row_line : ℕ → ℕ → List ℕ
result_row_line marked bound = line_text 0x12 marked 6 bound

-- The line of row k, from the marks and from the words handed out.
unfoldable pub result_line_of : ℕ → List ℕ → ℕ → List ℕ
result_line_of marks words k = result_row_line (bit_at marks k) (get_or words k 0)

-- A whole result sheet of so many rows: line one, in which it is accepted when every row is marked, then one line a row.
unfoldable pub result_bytes : ℕ → ℕ → List ℕ → List ℕ
result_bytes rows marks words = result_first_line (bit (every (is_set marks) rows)) rows ++ joined (result_line_of marks words) rows

-- Where the program refuses it writes one line: `1F`, number (2 digits), place (4 digits), 0A.
unfoldable pub refusal_line : ℕ → ℕ → List ℕ
refusal_line number place = line_text 0x1F number 4 place
