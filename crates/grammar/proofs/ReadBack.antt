-- A sheet that has the form is, in upper case, what its numbers write: line by line, each digit was read from the byte that is written for
-- it, or from that byte in lower case.
use mathlib.Core.Path.{◌≡◌, refl, sym, ◌∙◌, ap, ap₂}
use mathlib.Core.Bool.{true}
use mathlib.Core.List.{List, [], ◌∷◌, ◌++◌, map}
use Prim.Native.Nat.{ℕ, ◌+◌, ◌*◌, ◌-◌, ◌%◌, ◌≤◌, ◌<◌}
use native.Mathlib.Nat.{add_assoc, zero-add, mul_comm}
use native.Mathlib.Omega.{arith}
use borrow.Author.Tests.{eqb-true}
use lib.Dec.{eqb}
use lib.ListN.{length, get_or, length-map}
use Rattle.laws.specs.Fill.{listed, joined}
use Rattle.laws.proofs.Fill.{listed_at, listed_same, listed_back}
use Rattle.digits.specs.Digits.{is_digit, digit_byte, upper, number, digits}
use Rattle.digits.proofs.Upper.{upper_apart, upper_at_lem}
use Rattle.digits.proofs.Number.{digits_of_number}
use Rattle.rows.specs.Words.{sheet_of}
use Rattle.rows.proofs.Words.{cost_word, deadline_word, period_word}
use Rattle.grammar.specs.Grammar.{head, line, sheet_length, line_allows, processors_written, rows_written}
use Rattle.grammar.specs.Lines.{first_line, row_line, line_of, sheet_bytes, word_offset, word_written, words_written}
use Rattle.grammar.specs.Meaning.{Formed}
use Rattle.grammar.proofs.Grammar.{line-zero, line_kind, line_end, line_digit, sheet_head, sheet_row}
use Rattle.laws.proofs.Cuts.{listed_cut, joined-listed, joined_same}
use Rattle.grammar.proofs.Refusals.{words_rows}

-- The byte at an offset, in upper case.
abbrev upper_at : List ℕ → ℕ → ℕ
upper_at bytes offset = upper (get_or bytes offset 0)

-- The digits of a number that was read behind a line's start are the bytes that stand there, in upper case.
piece : (bytes : List ℕ) (at place count : ℕ) → ((i : ℕ) → i < count → is_digit (get_or bytes (at + (place + i)) 0) ≡ true)
    → digits count (number bytes (at + place) count) ≡ listed (λ i. upper_at bytes (at + (place + i))) count
piece bytes at place count each =
    digits_of_number bytes (at + place) count (λ i h. rw add_assoc (each i h))
    ∙ listed_same _ _ count (λ i h. ap (upper_at bytes) (add_assoc at place i))

-- A line that stands in the bytes from `at` on.
abbrev LineAt : List ℕ → ℕ → ℕ → ℕ → Type 0
LineAt bytes at kind last = (j : ℕ) → j ≤ last → line_allows kind last j (get_or bytes (at + j) 0) ≡ true

-- A byte that is found to be one below `A` is it in upper case too.
known : (byte sign : ℕ) → sign < 0x41 → eqb byte sign ≡ true → upper byte ≡ sign
known byte sign plain same = eqb-true (upper byte) sign (upper_apart byte sign plain ∙ same)

-- What such a line says of its bytes: `0`, its kind, digits, 0A.
module _ (bytes : List ℕ) (at kind last : ℕ) (stands : LineAt bytes at kind last) (long : 2 ≤ last) (plain : kind < 0x41) where
  zero_stands : upper_at bytes (at + 0) ≡ 0x30
  zero_stands = known _ 0x30 (omega arith) (sym (line-zero kind last 0 _ refl) ∙ stands 0 (omega arith))

  kind_stands : upper_at bytes (at + 1) ≡ kind
  kind_stands = known _ kind plain (sym (line_kind kind last 1 _ refl) ∙ stands 1 (omega arith))

  end_stands : upper_at bytes (at + last) ≡ 0x0A
  end_stands = known _ 0x0A (omega arith) (sym (line_end kind last last _ long refl) ∙ stands last (omega arith))

  digit_stands : (j : ℕ) → 2 ≤ j → j < last → is_digit (get_or bytes (at + j) 0) ≡ true
  digit_stands j from below = sym (line_digit kind last j _ from (λ same. omega arith)) ∙ stands j (omega arith)

-- Two bytes, as the digits of a kind.
first_kind : (f : ℕ → ℕ) → f 0 ≡ 0x30 → f 1 ≡ 0x31 → digits 2 0x01 ≡ listed f 2
unfolding digits digit_byte listed
first_kind f zero_there kind_there = rw (zero_there, kind_there)

row_kind : (f : ℕ → ℕ) → f 0 ≡ 0x30 → f 1 ≡ 0x32 → digits 2 0x02 ≡ listed f 2
unfolding digits digit_byte listed
row_kind f zero_there kind_there = rw (zero_there, kind_there)

-- A listing of 7 and one of 21, cut where the lines have their numbers.
first_cut : (f : ℕ → ℕ) → listed f 2 ++ listed (λ i. f (2 + i)) 2 ++ listed (λ i. f (4 + i)) 2 ++ (f 6 ∷ []) ≡ listed f 7
unfolding listed
first_cut f = refl

row_cut : (f : ℕ → ℕ)
    → listed f 2 ++ listed (λ i. f (2 + i)) 6 ++ listed (λ i. f (8 + i)) 6 ++ listed (λ i. f (14 + i)) 6 ++ (f 20 ∷ []) ≡ listed f 21
unfolding listed
row_cut f = refl

-- Line one as written is, in upper case, what its numbers write.
first_line_back : (bytes : List ℕ) → LineAt bytes 0 0x31 (head - 1)
    → first_line (processors_written bytes) (rows_written bytes) ≡ listed (λ j. upper_at bytes (0 + j)) head
unfolding first_line processors_written rows_written head
first_line_back bytes stands =
    let digit = digit_stands bytes 0 0x31 6 stands (omega arith) (omega arith) in
    rw (
      first_kind (λ j. upper_at bytes (0 + j)) (zero_stands bytes 0 0x31 6 stands (omega arith) (omega arith))
          (kind_stands bytes 0 0x31 6 stands (omega arith) (omega arith)),
      piece bytes 0 2 2 (λ i h. digit (2 + i) (omega arith) (omega arith)),
      piece bytes 0 4 2 (λ i h. digit (4 + i) (omega arith) (omega arith)),
      ← end_stands bytes 0 0x31 6 stands (omega arith) (omega arith),
    )
    (first_cut (λ j. upper_at bytes (0 + j)))

-- So is a row's line.
row_line_back : (bytes : List ℕ) (at : ℕ) → LineAt bytes at 0x32 (line - 1)
    → row_line (number bytes (at + 2) 6) (number bytes (at + 8) 6) (number bytes (at + 14) 6) ≡ listed (λ j. upper_at bytes (at + j)) line
unfolding row_line line
row_line_back bytes at stands =
    let digit = digit_stands bytes at 0x32 20 stands (omega arith) (omega arith) in
    rw (
      row_kind (λ j. upper_at bytes (at + j)) (zero_stands bytes at 0x32 20 stands (omega arith) (omega arith))
          (kind_stands bytes at 0x32 20 stands (omega arith) (omega arith)),
      piece bytes at 2 6 (λ i h. digit (2 + i) (omega arith) (omega arith)),
      piece bytes at 8 6 (λ i h. digit (8 + i) (omega arith) (omega arith)),
      piece bytes at 14 6 (λ i h. digit (14 + i) (omega arith) (omega arith)),
      ← end_stands bytes at 0x32 20 stands (omega arith) (omega arith),
    )
    (row_cut (λ j. upper_at bytes (at + j)))

-- Word w of the rows is the number that stands at its offset.
word_back : (bytes : List ℕ) (w at : ℕ) → w < 3 * rows_written bytes → word_offset w ≡ at → get_or (words_written bytes) w 0 ≡ number bytes at 6
unfolding words_written word_written
word_back bytes w at here offset = listed_at (word_written bytes) (3 * rows_written bytes) w here ∙ ap (λ (from : ℕ). number bytes from 6) offset

-- In a sheet that has the form line one stands at its start, and the line of row k behind those before it.
module _ (bytes : List ℕ) (formed : Formed bytes) where
  first_line_stands : LineAt bytes 0 0x31 (head - 1)
  unfolding sheet_length head
  first_line_stands j within =
      let whole : length bytes ≡ 7 + line * rows_written bytes = formed.whole in
      rw zero-add (sym (sheet_head (rows_written bytes) j _ (omega arith)) ∙ formed.each j (omega arith))

  row_line_stands : (k : ℕ) → k < rows_written bytes → LineAt bytes (head + line * k) 0x32 (line - 1)
  unfolding sheet_length line
  row_line_stands k here j within =
      let whole : length bytes ≡ head + 21 * rows_written bytes = formed.whole in
      let offset = head + 21 * k + j in
      let place : (offset - head) % 21 ≡ j = omega arith in
      ap (λ (at : ℕ). line_allows 0x32 20 at (get_or bytes offset 0)) (sym place)
      ∙ sym (sheet_row (rows_written bytes) offset _ (omega arith) (omega arith))
      ∙ formed.each offset (omega arith)

  -- The line of row k is, in upper case, what its words write.
  row_back : (k : ℕ) → k < rows_written bytes → line_of (sheet_of (words_written bytes)) k ≡ listed (λ j. upper_at bytes (head + line * k + j)) line
  unfolding line_of word_offset line
  row_back k here =
      let words = words_written bytes in
      let at = head + 21 * k in
      rw (
        cost_word words k ∙ word_back bytes (3 * k) (at + 2) (omega arith) (omega arith),
        deadline_word words k ∙ word_back bytes (3 * k + 1) (at + 8) (omega arith) (omega arith),
        period_word words k ∙ word_back bytes (3 * k + 2) (at + 14) (omega arith) (omega arith),
      )
      (row_line_back bytes at (row_line_stands k here))

  -- The lines of all rows.
  rows_back : joined (line_of (sheet_of (words_written bytes))) (rows_written bytes) ≡ listed (λ i. upper_at bytes (head + i)) (line * rows_written bytes)
  rows_back =
      joined_same _ (λ k. listed (λ j. upper_at bytes (head + (k * line + j))) line) (rows_written bytes)
      (λ k here.
      row_back k here
      ∙ listed_same _ _ line
      (λ j h. ap (upper_at bytes) (ap (λ (lines : ℕ). head + lines + j) (mul_comm line k) ∙ add_assoc head (k * line) j)))
      ∙ joined-listed (λ i. upper_at bytes (head + i)) line (rows_written bytes)
      ∙ ap (listed (λ i. upper_at bytes (head + i))) (mul_comm (rows_written bytes) line)

  -- The sheet that was read, written again, is the sheet in upper case.
  pub sheet_back : sheet_bytes (sheet_of (words_written bytes)) (processors_written bytes) ≡ map upper bytes
  unfolding sheet_bytes sheet_length
  sheet_back =
      let count : (sheet_of (words_written bytes)).rows ≡ rows_written bytes = words_rows bytes in
      let size = head + line * rows_written bytes in
      let first : first_line (processors_written bytes) (rows_written bytes) ≡ listed (upper_at bytes) head =
      first_line_back bytes first_line_stands ∙ listed_same _ _ head (λ j h. ap (upper_at bytes) (zero-add j)) in
      ap (λ (n : ℕ). first_line (processors_written bytes) n ++ joined (line_of (sheet_of (words_written bytes))) n) count
      ∙ ap₂ ◌++◌ first rows_back
      ∙ sym (listed_cut (upper_at bytes) head (line * rows_written bytes))
      ∙ listed_same _ _ size (λ i h. sym (upper_at_lem bytes i))
      ∙ listed_back (map upper bytes) size (length-map bytes upper ∙ formed.whole)
