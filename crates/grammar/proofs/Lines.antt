-- The lines of a sheet: how long they are, and how they come to stand one behind the other.
use mathlib.Core.Path.{◌≡◌, ◌∙◌, ap, ap₂}
use mathlib.Core.List.{List, ◌++◌}
use Prim.Native.Nat.{ℕ, ◌*◌, ◌-◌}
use native.Mathlib.Omega.{arith}
use lib.ListN.{length, take, drop, length-append}
use Rattle.laws.specs.Fill.{joined}
use Rattle.laws.proofs.Fill.{joined_length, front_filled}
use Rattle.model.specs.Sheet.{Sheet}
use Rattle.digits.proofs.Number.{digits-length}
use Rattle.grammar.specs.Grammar.{head, line, sheet_length}
use Rattle.grammar.specs.Lines.{first_line, row_line, line_of, sheet_bytes}

-- Line one and a row's line are as long as the grammar says.
pub first_line-length : (processors rows : ℕ) → length (first_line processors rows) ≡ head
unfolding first_line head
first_line-length processors rows = simp (length-append, digits-length)

pub row_line-length : (s : Sheet) (k : ℕ) → length (line_of s k) ≡ line
unfolding line_of row_line line
row_line-length s k = simp (length-append, digits-length)

-- So many lines of rows have 21 bytes each.
pub rows_length : (s : Sheet) (n : ℕ) → length (joined (line_of s) n) ≡ line * n
unfolding line
rows_length s n = joined_length (line_of s) line n (λ j h. row_line-length s j) ∙ omega arith

-- A sheet is as long as its rows say.
pub sheet_bytes_length : (s : Sheet) (processors : ℕ) → length (sheet_bytes s processors) ≡ sheet_length s.rows
unfolding sheet_bytes sheet_length
sheet_bytes_length s processors =
    length-append (first_line processors s.rows) (joined (line_of s) s.rows)
    ∙ rw (first_line-length processors s.rows, rows_length s s.rows)

-- Line one and the rows behind it are the sheet.
pub sheet_put : (s : Sheet) (processors : ℕ) (first rows l : List ℕ) → length l ≡ sheet_length s.rows
    → first ≡ first_line processors s.rows → rows ≡ joined (line_of s) s.rows
    → let whole = first ++ drop head l in
    take head whole ++ (rows ++ drop (length whole - head) (drop head whole)) ≡ sheet_bytes s processors
unfolding sheet_bytes sheet_length
sheet_put s processors first rows l full is_first is_rows =
    front_filled first rows l head (line * s.rows) (ap length is_first ∙ first_line-length processors s.rows)
    (ap length is_rows ∙ rows_length s s.rows) full
    ∙ ap₂ (λ (x y : List ℕ). x ++ y) is_first is_rows
