-- What may stand at an offset, test by test: each law names the case of the definition that its hypotheses choose.
use mathlib.Core.Path.{◌≡◌, ◌∙◌}
use mathlib.Core.Bool.{true, false, not}
use mathlib.Core.List.{List}
use mathlib.Core.Option.{none, some}
use Prim.Native.Nat.{ℕ, ◌+◌, ◌-◌, ◌%◌, ◌^◌, ◌≤◌, ◌<◌}
use native.Mathlib.Omega.{arith}
use borrow.Author.Tests.{eq-eqb, ne_eqb, lt-ltb, le-ltb}
use lib.Dec.{eqb, ltb}
use lib.ListN.{length, get_or}
use Rattle.laws.proofs.Choice.{pick_yes, pick_no}
use Rattle.laws.proofs.Search.{least-fixed}
use Rattle.digits.specs.Digits.{is_digit}
use Rattle.digits.proofs.Number.{number_small}
use Rattle.grammar.specs.Grammar.{head, line, sheet_length, line_allows, sheet_allows, rows_written, wrong_at, first_wrong}

-- A line: `0`, its kind, digits, 0A at its last place.
pub line-zero : (kind last place byte : ℕ) → place ≡ 0 → line_allows kind last place byte ≡ eqb byte 0x30
unfolding line_allows
line-zero kind last place byte first = pick_yes _ _ _ (eq-eqb place 0 first)

pub line_kind : (kind last place byte : ℕ) → place ≡ 1 → line_allows kind last place byte ≡ eqb byte kind
unfolding line_allows
line_kind kind last place byte second = pick_no _ _ _ (ne_eqb place 0 (λ first. omega arith)) ∙ pick_yes _ _ _ (eq-eqb place 1 second)

pub line_end : (kind last place byte : ℕ) → 2 ≤ place → place ≡ last → line_allows kind last place byte ≡ eqb byte 0x0A
unfolding line_allows
line_end kind last place byte later at_end =
    pick_no _ _ _ (ne_eqb place 0 (λ first. omega arith))
    ∙ pick_no _ _ _ (ne_eqb place 1 (λ second. omega arith))
    ∙ pick_yes _ _ _ (eq-eqb place last at_end)

pub line_digit : (kind last place byte : ℕ) → 2 ≤ place → (place ≡ last → ⊥) → line_allows kind last place byte ≡ is_digit byte
unfolding line_allows
line_digit kind last place byte later inside =
    pick_no _ _ _ (ne_eqb place 0 (λ first. omega arith))
    ∙ pick_no _ _ _ (ne_eqb place 1 (λ second. omega arith))
    ∙ pick_no _ _ _ (ne_eqb place last inside)

-- A sheet: line one, then rows, then nothing.
pub sheet_head : (rows offset byte : ℕ) → offset < head → sheet_allows rows offset byte ≡ line_allows 0x31 (head - 1) offset byte
unfolding sheet_allows
sheet_head rows offset byte below = pick_yes _ _ _ (lt-ltb offset head below)

pub sheet_row : (rows offset byte : ℕ) → head ≤ offset → offset < sheet_length rows
    → sheet_allows rows offset byte ≡ line_allows 0x32 (line - 1) ((offset - head) % line) byte
unfolding sheet_allows
sheet_row rows offset byte from below =
    pick_no _ _ _ (le-ltb offset head from) ∙ pick_yes _ _ _ (lt-ltb offset (sheet_length rows) below)

pub sheet_past : (rows offset byte : ℕ) → head ≤ offset → sheet_length rows ≤ offset → sheet_allows rows offset byte ≡ false
unfolding sheet_allows
sheet_past rows offset byte from past =
    pick_no _ _ _ (le-ltb offset head from) ∙ pick_no _ _ _ (le-ltb offset (sheet_length rows) past)

-- An offset where a byte stands is wrong by that byte, and one past the bytes by the length that they announce.
pub wrong_byte : (bytes : List ℕ) (offset : ℕ) → offset < length bytes
    → wrong_at bytes offset ≡ not (sheet_allows (rows_written bytes) offset (get_or bytes offset 0))
unfolding wrong_at
wrong_byte bytes offset inside = pick_yes _ _ _ (lt-ltb offset (length bytes) inside)

pub wrong_end : (bytes : List ℕ) (offset : ℕ) → length bytes ≤ offset
    → wrong_at bytes offset ≡ ltb offset (sheet_length (rows_written bytes))
unfolding wrong_at
wrong_end bytes offset past = pick_no _ _ _ (le-ltb offset (length bytes) past)

-- However the bytes look, the length that they announce is far from filling 32 bits.
pub announced_small : (bytes : List ℕ) → sheet_length (rows_written bytes) < 2 ^ 30
unfolding sheet_length head line rows_written
announced_small bytes = omega (arith, number_small bytes 4 2 (omega arith))

-- The first wrong offset is the one that is wrong with no wrong one before it; and none is where no offset is wrong.
pub wrong_found : (bytes : List ℕ) (offset : ℕ) → offset ≤ sheet_length (rows_written bytes) → wrong_at bytes offset ≡ true
    → ((k : ℕ) → k < offset → wrong_at bytes k ≡ false) → first_wrong bytes ≡ some offset
unfolding first_wrong
wrong_found bytes offset within wrong before =
    least-fixed (wrong_at bytes) 0 (sheet_length (rows_written bytes) + 1) (some offset)
    (record { passes = wrong; from = omega arith; inside = omega arith; lowest = λ k from below. before k below })

pub none_wrong : (bytes : List ℕ) → ((k : ℕ) → k ≤ sheet_length (rows_written bytes) → wrong_at bytes k ≡ false) → first_wrong bytes ≡ none
unfolding first_wrong
none_wrong bytes each =
    least-fixed (wrong_at bytes) 0 (sheet_length (rows_written bytes) + 1) none (λ k from below. each k (omega arith))
