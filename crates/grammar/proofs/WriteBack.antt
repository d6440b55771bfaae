-- What is written of rows has the form, and its numbers are those rows: each byte that is written may stand where it stands, and digits
-- read back are the value that they were written for.
use mathlib.Core.Path.{◌≡◌, refl, sym, ◌∙◌, ap}
use mathlib.Core.Bool.{true, false}
use mathlib.Core.List.{List, [], ◌∷◌, ◌++◌, append_assoc}
use mathlib.Core.Logic.{⊎_elim}
use Prim.Native.Nat.{ℕ, ◌+◌, ◌*◌, ◌-◌, ◌/◌, ◌%◌, ◌^◌, ◌≤◌, ◌<◌}
use native.Mathlib.Nat.{zero-add, mul_comm}
use native.Mathlib.Omega.{arith}
use lib.ListN.{get_or, length-append, get_or-append}
use lib.Seq.{get_or-append-add}
use Rattle.laws.specs.Fill.{listed, joined}
use Rattle.laws.proofs.Order.{below_or_from}
use Rattle.laws.proofs.Fill.{listed_same, listed_back, joined_at}
use Rattle.laws.proofs.Cuts.{get_d_between, along, along_each}
use Rattle.model.specs.Sheet.{Sheet, Allowed, processors_allowed}
use Rattle.model.proofs.Sheet.{row_sized, few_rows, allowed_processors}
use Rattle.digits.specs.Digits.{digit_byte, number, digits}
use Rattle.digits.proofs.Digit.{byte_is_digit}
use Rattle.digits.proofs.Number.{digits-length, number_of_digits}
use Rattle.rows.specs.Words.{sheet_of}
use Rattle.rows.specs.Checks.{not_whole}
use Rattle.rows.proofs.Words.{cost_word, deadline_word, period_word}
use Rattle.rows.proofs.Checks.{words_laid}
use Rattle.grammar.specs.Grammar.{head, line, sheet_length, line_allows, sheet_allows, processors_written, rows_written}
use Rattle.grammar.specs.Lines.{first_line, row_line, line_of, sheet_bytes, word_offset, word_written, words_written}
use Rattle.grammar.specs.Meaning.{Formed}
use Rattle.grammar.proofs.Grammar.{sheet_head, sheet_row}
use Rattle.grammar.proofs.Lines.{first_line-length, row_line-length, sheet_bytes_length}

-- The digits of the two lines' kinds, as bytes.
zero_byte : digit_byte 0 ≡ 0x30
unfolding digit_byte
zero_byte = refl

first_kind : digit_byte 1 ≡ 0x31
unfolding digit_byte
first_kind = refl

row_kind : digit_byte 2 ≡ 0x32
unfolding digit_byte
row_kind = refl

-- Each byte of the two lines may stand where it stands.
first_line-along : (processors rows : ℕ) → along (line_allows 0x31 (head - 1)) 0 (first_line processors rows) ≡ true
unfolding first_line head along line_allows digits
first_line-along processors rows = rw (zero_byte, first_kind) (simp byte_is_digit)

row_line-along : (c d t : ℕ) → along (line_allows 0x32 (line - 1)) 0 (row_line c d t) ≡ true
unfolding row_line line along line_allows digits
row_line-along c d t = rw (zero_byte, row_kind) (simp byte_is_digit)

-- A sheet is line one and the rows behind it.
module _ (s : Sheet) (processors : ℕ) where
  in_first_line : (i : ℕ) → i < head → get_or (sheet_bytes s processors) i 0 ≡ get_or (first_line processors s.rows) i 0
  unfolding sheet_bytes
  in_first_line i inside =
      get_or-append (first_line processors s.rows) (joined (line_of s) s.rows) 0 i (rw (first_line-length processors s.rows) inside)

  in_row : (k j : ℕ) → k < s.rows → j < line → get_or (sheet_bytes s processors) (head + (k * line + j)) 0 ≡ get_or (line_of s k) j 0
  unfolding sheet_bytes
  in_row k j here inside =
      rw (← first_line-length processors s.rows)
      (get_or-append-add (first_line processors s.rows) (joined (line_of s) s.rows) (k * line + j) 0)
      ∙ joined_at (line_of s) line s.rows k j (λ i h. row_line-length s i) here inside

  -- Line one read back: its processors and its rows.
  processors_back : processors < 16 ^ 2 → processors_written (sheet_bytes s processors) ≡ processors
  unfolding processors_written first_line head
  processors_back small =
      number_of_digits (sheet_bytes s processors) 2 2 processors small
      (λ i h.
      in_first_line (2 + i) (omega arith)
      ∙ ap (λ (l : List ℕ). get_or l (2 + i) 0) (append_assoc (digits 2 0x01 ++ digits 2 processors) (digits 2 s.rows) (0x0A ∷ []))
      ∙ get_d_between (digits 2 0x01) (digits 2 processors) (digits 2 s.rows ++ (0x0A ∷ [])) 2 i (digits-length 2 0x01)
      (rw digits-length h))

  rows_back : s.rows < 16 ^ 2 → rows_written (sheet_bytes s processors) ≡ s.rows
  unfolding rows_written first_line head
  rows_back small =
      number_of_digits (sheet_bytes s processors) 4 2 s.rows small
      (λ i h.
      in_first_line (4 + i) (omega arith)
      ∙ get_d_between (digits 2 0x01 ++ digits 2 processors) (digits 2 s.rows) (0x0A ∷ []) 4 i
      (simp (length-append, digits-length)) (rw digits-length h))

  -- A number of a row's line read back.
  field_back : (k place value : ℕ) → k < s.rows → place + 6 ≤ line → value < 16 ^ 6
      → ((i : ℕ) → i < 6 → get_or (line_of s k) (place + i) 0 ≡ get_or (digits 6 value) i 0)
      → number (sheet_bytes s processors) (head + line * k + place) 6 ≡ value
  field_back k place value here inside small stands =
      number_of_digits (sheet_bytes s processors) (head + line * k + place) 6 value small
      (λ i h.
      ap (λ (at : ℕ). get_or (sheet_bytes s processors) at 0) (offset i)
      ∙ in_row k (place + i) here (omega arith)
      ∙ stands i h)
    where
      offset : (i : ℕ) → head + line * k + place + i ≡ head + (k * line + (place + i))
      offset i = rw (mul_comm line k) (omega arith)

  -- The three numbers of row k.
  cost_back : (k : ℕ) → k < s.rows → s.cost k < 16 ^ 6 → number (sheet_bytes s processors) (head + line * k + 2) 6 ≡ s.cost k
  unfolding line line_of row_line
  cost_back k here small =
      let c = digits 6 (s.cost k) in
      let d = digits 6 (s.deadline k) in
      let t = digits 6 (s.period k) in
      field_back k 2 (s.cost k) here (omega arith) small
      (λ i h.
      ap (λ (l : List ℕ). get_or l (2 + i) 0)
      (append_assoc (digits 2 0x02 ++ c ++ d) t (0x0A ∷ []) ∙ append_assoc (digits 2 0x02 ++ c) d (t ++ (0x0A ∷ [])))
      ∙ get_d_between (digits 2 0x02) c (d ++ (t ++ (0x0A ∷ []))) 2 i (digits-length 2 0x02) (rw digits-length h))

  deadline_back : (k : ℕ) → k < s.rows → s.deadline k < 16 ^ 6 → number (sheet_bytes s processors) (head + line * k + 8) 6 ≡ s.deadline k
  unfolding line line_of row_line
  deadline_back k here small =
      let c = digits 6 (s.cost k) in
      let d = digits 6 (s.deadline k) in
      let t = digits 6 (s.period k) in
      field_back k 8 (s.deadline k) here (omega arith) small
      (λ i h.
      ap (λ (l : List ℕ). get_or l (8 + i) 0) (append_assoc (digits 2 0x02 ++ c ++ d) t (0x0A ∷ []))
      ∙ get_d_between (digits 2 0x02 ++ c) d (t ++ (0x0A ∷ [])) 8 i (simp (length-append, digits-length)) (rw digits-length h))

  period_back : (k : ℕ) → k < s.rows → s.period k < 16 ^ 6 → number (sheet_bytes s processors) (head + line * k + 14) 6 ≡ s.period k
  unfolding line line_of row_line
  period_back k here small =
      field_back k 14 (s.period k) here (omega arith) small
      (λ i h.
      get_d_between (digits 2 0x02 ++ digits 6 (s.cost k) ++ digits 6 (s.deadline k)) (digits 6 (s.period k)) (0x0A ∷ []) 14 i
      (simp (length-append, digits-length)) (rw digits-length h))

  -- Each byte may stand where it stands, in line one and in the rows.
  first_allowed : (i : ℕ) → i < head → sheet_allows s.rows i (get_or (sheet_bytes s processors) i 0) ≡ true
  first_allowed i inside =
      sheet_head s.rows i _ inside
      ∙ ap (line_allows 0x31 (head - 1) i) (in_first_line i inside)
      ∙ rw (zero-add i) at
      (along_each (line_allows 0x31 (head - 1)) 0 (first_line processors s.rows) (first_line-along processors s.rows) i
      (rw (first_line-length processors s.rows) inside))

  row_allowed : (i : ℕ) → head ≤ i → i < sheet_length s.rows → sheet_allows s.rows i (get_or (sheet_bytes s processors) i 0) ≡ true
  unfolding sheet_length line line_of
  row_allowed i later inside =
      let k = (i - head) / 21 in
      let j = (i - head) % 21 in
      let offset : i ≡ head + (k * 21 + j) = omega arith in
      sheet_row s.rows i _ later inside
      ∙ ap (line_allows 0x32 20 j) (ap (λ (at : ℕ). get_or (sheet_bytes s processors) at 0) offset ∙ in_row k j (omega arith) (omega arith))
      ∙ rw (zero-add j) at
      (along_each (line_allows 0x32 20) 0 (line_of s k) (row_line-along (s.cost k) (s.deadline k) (s.period k)) j
      (rw (row_line-length s k) (omega arith)))

-- What is written has the form.
pub written_formed : (s : Sheet) (processors : ℕ) → s.rows < 16 ^ 2 → Formed (sheet_bytes s processors)
written_formed s processors small =
    record {
      whole = sheet_bytes_length s processors ∙ ap sheet_length (sym (rows_back s processors small));
      each =
          λ i inside.
          rw (rows_back s processors small)
          (⊎_elim (first_allowed s processors i) (λ later. row_allowed s processors i later (rw sheet_bytes_length at inside))
          (below_or_from i head));
    }

-- Each word is one of the three numbers of its row.
by_column : (P : ℕ → Type 0) (n : ℕ) → ((k : ℕ) → k < n → P (3 * k)) → ((k : ℕ) → k < n → P (3 * k + 1)) → ((k : ℕ) → k < n → P (3 * k + 2))
    → (w : ℕ) → w < 3 * n → P w
by_column P n cost deadline period w inside =
    let k = w / 3 in
    let here : k < n = omega arith in
    ⊎_elim (λ (first : w % 3 < 1). let same : w ≡ 3 * k = omega arith in rw same (cost k here))
    (λ (later : 1 ≤ w % 3).
    ⊎_elim (λ (second : w % 3 < 2). let same : w ≡ 3 * k + 1 = omega arith in rw same (deadline k here))
    (λ (third : 2 ≤ w % 3). let same : w ≡ 3 * k + 2 = omega arith in rw same (period k here))
    (below_or_from (w % 3) 2))
    (below_or_from (w % 3) 1)

-- Word w is read at its row and its column.
word_read : (bytes : List ℕ) (w k place : ℕ) → w / 3 ≡ k → 2 + 6 * (w % 3) ≡ place → word_written bytes w ≡ number bytes (head + line * k + place) 6
unfolding word_written word_offset line
word_read bytes w k place row column =
    let offset : head + 21 * (w / 3) + 2 + 6 * (w % 3) ≡ head + 21 * k + place = omega arith in
    ap (λ (at : ℕ). number bytes at 6) offset

-- Words of whole rows of allowed sizes, written and read back, are the same words.
module _ (words : List ℕ) (processors : ℕ) (laid : not_whole words ≡ false) (sizes : Allowed (sheet_of words)) where
  small_count : (sheet_of words).rows < 16 ^ 2
  small_count = omega (arith, few_rows (sheet_of words) sizes)

  pub rows_same : rows_written (sheet_bytes (sheet_of words) processors) ≡ (sheet_of words).rows
  rows_same = rows_back (sheet_of words) processors small_count

  word_same : (w : ℕ) → w < 3 * (sheet_of words).rows → word_written (sheet_bytes (sheet_of words) processors) w ≡ get_or words w 0
  word_same =
      let s = sheet_of words in
      let bytes = sheet_bytes s processors in
      by_column (λ w. word_written bytes w ≡ get_or words w 0) s.rows
      (λ k here.
      let sized = row_sized s sizes k here in
      word_read bytes (3 * k) k 2 (omega arith) (omega arith)
      ∙ cost_back s processors k here (omega arith)
      ∙ cost_word words k)
      (λ k here.
      let sized = row_sized s sizes k here in
      word_read bytes (3 * k + 1) k 8 (omega arith) (omega arith)
      ∙ deadline_back s processors k here (omega arith)
      ∙ deadline_word words k)
      (λ k here.
      let sized = row_sized s sizes k here in
      word_read bytes (3 * k + 2) k 14 (omega arith) (omega arith)
      ∙ period_back s processors k here (omega arith)
      ∙ period_word words k)

  pub words_same : words_written (sheet_bytes (sheet_of words) processors) ≡ words
  unfolding words_written
  words_same =
      ap (λ (n : ℕ). listed (word_written (sheet_bytes (sheet_of words) processors)) (3 * n)) rows_same
      ∙ listed_same _ _ (3 * (sheet_of words).rows) word_same
      ∙ listed_back words (3 * (sheet_of words).rows) (words_laid words laid).whole

  pub processors_same : processors_allowed processors ≡ true → processors_written (sheet_bytes (sheet_of words) processors) ≡ processors
  processors_same allowed =
      processors_back (sheet_of words) processors (omega (arith, (allowed_processors processors allowed).1))

  -- And the sheet has the form.
  pub sound_formed : Formed (sheet_bytes (sheet_of words) processors)
  sound_formed = written_formed (sheet_of words) processors small_count
