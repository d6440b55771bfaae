-- The lines of a sheet as they are written, and the words that its rows say.
use Rattle.std.specs.Prelude.{List, [], ◌∷◌, ◌++◌, ℕ, ◌+◌, ◌*◌, ◌/◌, ◌%◌}
use Rattle.laws.specs.Fill.{listed, joined}
use Rattle.model.specs.Sheet.{Sheet}
use Rattle.digits.specs.Digits.{number, digits}
use Rattle.grammar.specs.Grammar.{head, line, rows_written}

-- Line one: `01`, processors (2 digits), rows (2 digits), 0A.
unfoldable pub first_line : ℕ → ℕ → List ℕ
first_line processors rows = digits 2 0x01 ++ digits 2 processors ++ digits 2 rows ++ (0x0A ∷ [])

-- A row's line: `02`, then C, D, T with 6 digits each, 0A.
unfoldable pub row_line : ℕ → ℕ → ℕ → List ℕ
row_line c d t = digits 2 0x02 ++ digits 6 c ++ digits 6 d ++ digits 6 t ++ (0x0A ∷ [])

-- The line of the row at place k.
unfoldable pub line_of : Sheet → ℕ → List ℕ
line_of s k = row_line (s.cost k) (s.deadline k) (s.period k)

-- A whole sheet: line one, then one line a row.
unfoldable pub sheet_bytes : Sheet → ℕ → List ℕ
sheet_bytes s processors = first_line processors s.rows ++ joined (line_of s) s.rows

-- Where the digits of word w start: a row's line holds three words of 6 digits, behind its `02`.
unfoldable pub word_offset : ℕ → ℕ
word_offset w = head + line * (w / 3) + 2 + 6 * (w % 3)

-- Word w of the rows as written.
unfoldable pub word_written : List ℕ → ℕ → ℕ
word_written bytes w = number bytes (word_offset w) 6

-- The words of all rows as written: three a row.
unfoldable pub words_written : List ℕ → List ℕ
words_written bytes = listed (word_written bytes) (3 * rows_written bytes)
