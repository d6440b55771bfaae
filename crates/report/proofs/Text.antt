-- The lines of a result sheet: how long they are, which words they read, and that they are in upper case.
use mathlib.Core.Path.{◌≡◌, ◌∙◌, ap}
use mathlib.Core.List.{List, ◌++◌, map}
use Prim.Native.Nat.{ℕ, ◌+◌, ◌*◌}
use native.Mathlib.Omega.{arith}
use lib.ListN.{length, get_or, length-append, get_or-append}
use Rattle.laws.specs.Fill.{joined}
use Rattle.laws.specs.Bits.{bit, bit_at, is_set, every}
use Rattle.laws.proofs.Fill.{joined_length}
use Rattle.laws.proofs.Cuts.{joined_same, mapped_append, mapped_joined}
use Rattle.digits.specs.Digits.{upper}
use Rattle.digits.proofs.Number.{digits-length, digits-upper}
use Rattle.digits.proofs.Line.{with_digits-upper, line-upper}
use Rattle.report.specs.Lines.{result_head, result_line, result_length, line_text, result_first_line, result_row_line, result_line_of, result_bytes, refusal_line}

-- A line has five bytes and its number's digits.
pub line-length : (kind small count value : ℕ) → length (line_text kind small count value) ≡ 5 + count
unfolding line_text
line-length kind small count value = simp (length-append, digits-length) (omega arith)

pub first_line-length : (accepted rows : ℕ) → length (result_first_line accepted rows) ≡ result_head
unfolding result_first_line result_head
first_line-length accepted rows = line-length 0x11 accepted 2 rows

pub row_line-length : (marks : ℕ) (words : List ℕ) (k : ℕ) → length (result_line_of marks words k) ≡ result_line
unfolding result_line_of result_row_line result_line
row_line-length marks words k = line-length 0x12 (bit_at marks k) 6 (get_or words k 0)

-- So many lines of rows have 11 bytes each.
pub rows_length : (marks : ℕ) (words : List ℕ) (n : ℕ) → length (joined (result_line_of marks words) n) ≡ result_line * n
unfolding result_line
rows_length marks words n = joined_length (result_line_of marks words) result_line n (λ j h. row_line-length marks words j) ∙ omega arith

-- Only the first words count, as many as there are rows.
pub text_front : (rows marks : ℕ) (words rest : List ℕ) → length words ≡ rows → result_bytes rows marks (words ++ rest) ≡ result_bytes rows marks words
unfolding result_bytes result_line_of
text_front rows marks words rest size =
    ap (λ (l : List ℕ). result_first_line (bit (every (is_set marks) rows)) rows ++ l)
    (joined_same _ _ rows (λ k h. ap (result_row_line (bit_at marks k)) (get_or-append words rest 0 k (rw size h))))

-- A result sheet is as long as its rows say.
pub result_length_lem : (rows marks : ℕ) (words : List ℕ) → length (result_bytes rows marks words) ≡ result_length rows
unfolding result_bytes result_length
result_length_lem rows marks words =
    length-append (result_first_line (bit (every (is_set marks) rows)) rows) (joined (result_line_of marks words) rows)
    ∙ rw (first_line-length (bit (every (is_set marks) rows)) rows, rows_length marks words rows)

-- The line of a refused sheet has 9 bytes.
pub refusal_length : (number place : ℕ) → length (refusal_line number place) ≡ 9
unfolding refusal_line
refusal_length number place = line-length 0x1F number 4 place

-- A line is in upper case, and so are a result sheet and the line of a refused one.
line_in_upper : (kind small count value : ℕ) → map upper (line_text kind small count value) ≡ line_text kind small count value
unfolding line_text
line_in_upper kind small count value = line-upper _ (with_digits-upper _ count value (with_digits-upper _ 2 small (digits-upper 2 kind)))

pub result_in_upper : (rows marks : ℕ) (words : List ℕ) → map upper (result_bytes rows marks words) ≡ result_bytes rows marks words
unfolding result_bytes result_first_line result_line_of result_row_line
result_in_upper rows marks words =
    mapped_append upper _ _ (line_in_upper 0x11 (bit (every (is_set marks) rows)) 2 rows)
    (mapped_joined upper (result_line_of marks words) rows (λ k. line_in_upper 0x12 (bit_at marks k) 6 (get_or words k 0)))

pub refusal_in_upper : (number place : ℕ) → map upper (refusal_line number place) ≡ refusal_line number place
unfolding refusal_line
refusal_in_upper number place = line_in_upper 0x1F number 4 place
