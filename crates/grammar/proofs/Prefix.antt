-- The place of refusal 1 tells how far the bytes could have been the front of a sheet. What stands before it is filled up to a sheet; and
-- what may stand at an offset depends on nothing but the bytes before it.
use mathlib.Core.Path.{◌≡◌, refl, sym, ◌∙◌, ap}
use mathlib.Core.Bool.{Bool, true, false}
use mathlib.Core.List.{List}
use mathlib.Core.Logic.{⊎_elim}
use Prim.Native.Nat.{ℕ, suc, ◌+◌, ◌-◌, ◌%◌, ◌≤◌, ◌<◌}
use native.Mathlib.Omega.{arith}
use borrow.Author.Tests.{eq-eqb, ne_eqb, eqb-true, eqb-false, lt-ltb, le-ltb}
use lib.Dec.{eqb, ltb}
use lib.ListN.{length, get_or}
use Rattle.laws.specs.Choice.{pick}
use Rattle.laws.specs.Fill.{listed}
use Rattle.laws.proofs.Choice.{never_both, pick_yes, pick_no}
use Rattle.laws.proofs.Order.{below_or_from}
use Rattle.laws.proofs.Fill.{listed-length, listed_at}
use Rattle.digits.specs.Digits.{is_digit, digit_value, within, upper, number}
use Rattle.digits.proofs.Number.{number_same, number_alike}
use Rattle.grammar.specs.Grammar.{head, line, sheet_length, line_allows, sheet_allows, rows_written}
use Rattle.grammar.specs.Meaning.{Formed, EndsAt, WrongByteAt, Breaks, AlikeBelow, SameLettersBelow, FarAs}
use Rattle.grammar.proofs.Grammar.{line-zero, line_kind, line_end, line_digit, sheet_head, sheet_row}
use Rattle.grammar.proofs.Meaning.{breaks_within}
use Rattle.grammar.proofs.LetterCase.{allowed_alike}

-- Bytes that differ past the row count in letter case at most announce the same rows.
same_rows : (bytes other : List ℕ) (place : ℕ) → head ≤ place → SameLettersBelow bytes other place → rows_written other ≡ rows_written bytes
unfolding head rows_written
same_rows bytes other place past alike = number_alike other bytes 4 4 2 (λ i h. alike (4 + i) (omega arith))

-- So what may stand at an offset is the same in both.
same_allowed : (bytes other : List ℕ) (place i byte : ℕ) → i ≤ place → SameLettersBelow bytes other place
    → sheet_allows (rows_written other) i byte ≡ sheet_allows (rows_written bytes) i byte
same_allowed bytes other place i byte within alike =
    ⊎_elim (λ (first : i < head). sheet_head (rows_written other) i byte first ∙ sym (sheet_head (rows_written bytes) i byte first))
    (λ (later : head ≤ i). ap (λ (rows : ℕ). sheet_allows rows i byte) (same_rows bytes other place (omega arith) alike))
    (below_or_from i head)

-- A byte that may stand at a place of a line, and at an offset of a sheet.
unfoldable line_filler : ℕ → ℕ → ℕ → ℕ
line_filler kind last place = pick (eqb place 1) kind (pick (eqb place last) 0x0A 0x30)

unfoldable filler : ℕ → ℕ
filler offset = pick (ltb offset head) (line_filler 0x31 (head - 1) offset) (line_filler 0x32 (line - 1) ((offset - head) % line))

-- Both lines have more than two bytes.
long_head : 2 ≤ head - 1
unfolding head
long_head = omega arith

long_line : 2 ≤ line - 1
unfolding line
long_line = omega arith

-- `0` is a digit.
zero_digit : is_digit 0x30 ≡ true
unfolding is_digit digit_value within
zero_digit = refl

line_filled : (kind last place : ℕ) → 2 ≤ last → line_allows kind last place (line_filler kind last place) ≡ true
unfolding line_filler
line_filled kind last place long =
    ⊎_elim
    (λ (first : place < 1).
    line-zero kind last place _ (omega arith)
    ∙ eq-eqb _ 0x30 (pick_no _ _ _ (ne_eqb place 1 (λ same. omega arith)) ∙ pick_no _ _ _ (ne_eqb place last (λ same. omega arith))))
    (λ (not_first : 1 ≤ place).
    ⊎_elim
    (λ (second : place < 2).
    let is_second : place ≡ 1 = omega arith in
    line_kind kind last place _ is_second ∙ eq-eqb _ kind (pick_yes _ _ _ (eq-eqb place 1 is_second)))
    (λ (later : 2 ≤ place). split later (eqb place last) refl)
    (below_or_from place 2))
    (below_or_from place 1)
  where
    split : 2 ≤ place → (b : Bool) → eqb place last ≡ b
        → line_allows kind last place (pick (eqb place 1) kind (pick (eqb place last) 0x0A 0x30)) ≡ true
    split later true is_end =
        line_end kind last place _ later (eqb-true place last is_end)
        ∙ eq-eqb _ 0x0A (pick_no _ _ _ (ne_eqb place 1 (λ same. omega arith)) ∙ pick_yes _ _ _ is_end)
    split later false not_end =
        line_digit kind last place _ later (eqb-false place last not_end)
        ∙ ap is_digit (pick_no _ _ _ (ne_eqb place 1 (λ same. omega arith)) ∙ pick_no _ _ _ not_end)
        ∙ zero_digit

sheet_filled : (rows offset : ℕ) → offset < sheet_length rows → sheet_allows rows offset (filler offset) ≡ true
unfolding filler
sheet_filled rows offset inside =
    ⊎_elim
    (λ (first : offset < head).
    sheet_head rows offset _ first
    ∙ ap (line_allows 0x31 (head - 1) offset) (pick_yes _ _ _ (lt-ltb offset head first))
    ∙ line_filled 0x31 (head - 1) offset long_head)
    (λ (later : head ≤ offset).
    sheet_row rows offset _ later inside
    ∙ ap (line_allows 0x32 (line - 1) ((offset - head) % line)) (pick_no _ _ _ (le-ltb offset head later))
    ∙ line_filled 0x32 (line - 1) ((offset - head) % line) long_line)
    (below_or_from offset head)

-- The bytes below a place, filled up to a sheet of as many rows as its line one then announces.
unfoldable completed : List ℕ → ℕ → ℕ → ℕ
completed bytes place i = pick (ltb i place) (get_or bytes i 0) (filler i)

unfoldable rows_there : List ℕ → ℕ → ℕ
rows_there bytes place = number (listed (completed bytes place) head) 4 2

unfoldable filled_up : List ℕ → ℕ → List ℕ
filled_up bytes place = listed (completed bytes place) (sheet_length (rows_there bytes place))

-- A sheet is at least line one.
head-within : (rows : ℕ) → head ≤ sheet_length rows
unfolding sheet_length
head-within rows = omega arith

module _ (bytes : List ℕ) (place : ℕ) where
  kept_below : (i : ℕ) → i < place → completed bytes place i ≡ get_or bytes i 0
  unfolding completed
  kept_below i below = pick_yes _ _ _ (lt-ltb i place below)

  filled_from : (i : ℕ) → place ≤ i → completed bytes place i ≡ filler i
  unfolding completed
  filled_from i from = pick_no _ _ _ (le-ltb i place from)

  filled_length : length (filled_up bytes place) ≡ sheet_length (rows_there bytes place)
  unfolding filled_up
  filled_length = listed-length (completed bytes place) (sheet_length (rows_there bytes place))

  filled_at : (i : ℕ) → i < sheet_length (rows_there bytes place) → get_or (filled_up bytes place) i 0 ≡ completed bytes place i
  unfolding filled_up
  filled_at i inside = listed_at (completed bytes place) (sheet_length (rows_there bytes place)) i inside

  -- It announces the rows that it has.
  announced : rows_written (filled_up bytes place) ≡ rows_there bytes place
  unfolding rows_written rows_there sheet_length head
  announced =
      number_same (filled_up bytes place) (listed (completed bytes place) 7) 4 4 2
      (λ i h. filled_at (4 + i) (omega arith) ∙ sym (listed_at (completed bytes place) 7 (4 + i) (omega arith)))

  -- Past line one these are the rows that the bytes announce.
  same_there : head ≤ place → rows_there bytes place ≡ rows_written bytes
  unfolding rows_written rows_there head
  same_there past =
      number_same (listed (completed bytes place) 7) bytes 4 4 2
      (λ i h. listed_at (completed bytes place) 7 (4 + i) (omega arith) ∙ kept_below (4 + i) (omega arith))

  -- It reaches the place.
  reaches : Breaks bytes place → place ≤ sheet_length (rows_there bytes place)
  reaches breaks =
      ⊎_elim (λ (early : place < head). omega (arith, head-within (rows_there bytes place)))
      (λ (past : head ≤ place). rw (same_there past) (breaks_within bytes place breaks))
      (below_or_from place head)

  alike : Breaks bytes place → AlikeBelow bytes (filled_up bytes place) place
  alike breaks i below = let there = reaches breaks in filled_at i (omega arith) ∙ kept_below i below

  -- Each of its bytes may stand where it stands.
  may_stand : Breaks bytes place → (i : ℕ) → i < length (filled_up bytes place)
      → sheet_allows (rows_written (filled_up bytes place)) i (get_or (filled_up bytes place) i 0) ≡ true
  may_stand breaks i inside =
      ⊎_elim
      (λ (below : i < place).
      same_allowed bytes (filled_up bytes place) place i _ (omega arith) (λ j under. ap upper (alike breaks j under))
      ∙ ap (sheet_allows (rows_written bytes) i) (alike breaks i below)
      ∙ breaks.before i below)
      (λ (from : place ≤ i).
      let within : i < sheet_length (rows_there bytes place) = rw filled_length at inside in
      rw (announced, filled_at i within, filled_from i from) (sheet_filled (rows_there bytes place) i within))
      (below_or_from i place)

-- No sheet has the byte at the place too: it may not stand there in any that has those before it, whatever the case.
beyond : (bytes : List ℕ) (place : ℕ) → Breaks bytes place → place < length bytes → (sheet : List ℕ) → Formed sheet → place < length sheet
    → SameLettersBelow bytes sheet (suc place) → ⊥
beyond bytes place breaks inside sheet formed long same =
    ⊎_elim (λ (ends : EndsAt bytes place). let end : place ≡ length bytes = ends.end in omega arith)
    (λ (wrong : WrongByteAt bytes place).
    never_both (formed.each place long)
    (allowed_alike (rows_written sheet) place (get_or sheet place 0) (get_or bytes place 0) (same place (omega arith))
    ∙ same_allowed bytes sheet place place (get_or bytes place 0) (omega arith) (λ i below. same i (omega arith))
    ∙ wrong.refused))
    breaks.here

-- Where bytes break the form is how far they could have been the front of a sheet.
pub breaks_far : (bytes : List ℕ) (place : ℕ) → Breaks bytes place → FarAs bytes place
breaks_far bytes place breaks =
    record {
      some_sheet =
          record {
            sheet = filled_up bytes place;
            formed = record { whole = filled_length bytes place ∙ ap sheet_length (sym (announced bytes place)); each = may_stand bytes place breaks };
            long = rw (filled_length bytes place) (reaches bytes place breaks);
            alike = alike bytes place breaks;
          };
      no_sheet = beyond bytes place breaks;
    }
