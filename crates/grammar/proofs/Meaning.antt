-- The first wrong offset is what it means: where no offset is wrong the bytes have the form, and the least that is wrong is where they
-- break it. The meaning fixes the answer.
use mathlib.Core.Path.{◌≡◌, sym, ◌∙◌, ap}
use mathlib.Core.Bool.{true, false, not}
use mathlib.Core.List.{List}
use mathlib.Core.Logic.{inl, inr, ⊎_elim}
use mathlib.Core.Option.{Option, none, some}
use Prim.Native.Nat.{ℕ, ◌+◌, ◌*◌, ◌≤◌, ◌<◌}
use native.Mathlib.Nat.{le_antisymm, le_refl}
use native.Mathlib.Omega.{arith}
use borrow.Author.Tests.{ltb-true, ltb-false, lt-ltb, le-ltb, not-true, not-false}
use lib.ListN.{length, get_or}
use Rattle.laws.specs.Search.{Searched}
use Rattle.laws.proofs.Choice.{never_both}
use Rattle.laws.proofs.Order.{below_or_from}
use Rattle.laws.proofs.Search.{least_means}
use Rattle.digits.specs.Digits.{number}
use Rattle.digits.proofs.Number.{number_below}
use Rattle.grammar.specs.Grammar.{head, line, sheet_length, sheet_allows, rows_written, wrong_at, first_wrong}
use Rattle.grammar.specs.Meaning.{EndsAt, WrongByteAt, Breaks, FormMeans}
use Rattle.grammar.proofs.Grammar.{line_digit, sheet_head, sheet_past, wrong_byte, wrong_end, wrong_found, none_wrong}

-- A byte that is not wrong may stand where it stands, and one that may is not wrong.
right_byte : (bytes : List ℕ) (i : ℕ) → i < length bytes → wrong_at bytes i ≡ false → sheet_allows (rows_written bytes) i (get_or bytes i 0) ≡ true
right_byte bytes i inside right = not-false _ (sym (wrong_byte bytes i inside) ∙ right)

byte_right : (bytes : List ℕ) (i : ℕ) → i < length bytes → sheet_allows (rows_written bytes) i (get_or bytes i 0) ≡ true → wrong_at bytes i ≡ false
byte_right bytes i inside allowed = wrong_byte bytes i inside ∙ ap not allowed

-- A byte at the announced length is wrong.
past_wrong : (bytes : List ℕ) → sheet_length (rows_written bytes) < length bytes → wrong_at bytes (sheet_length (rows_written bytes)) ≡ true
unfolding sheet_length
past_wrong bytes longer =
    wrong_byte bytes (head + line * rows_written bytes) longer
    ∙ ap not (sheet_past (rows_written bytes) (head + line * rows_written bytes) _ (omega arith) (le_refl _))

-- Where no offset is wrong the bytes are as many as they announce.
right_length : (bytes : List ℕ) → ((i : ℕ) → i ≤ sheet_length (rows_written bytes) → wrong_at bytes i ≡ false) → length bytes ≡ sheet_length (rows_written bytes)
right_length bytes right =
    ⊎_elim
    (λ (short : length bytes < sheet_length (rows_written bytes)).
    absurd
    (never_both (wrong_end bytes (length bytes) (le_refl _) ∙ lt-ltb (length bytes) (sheet_length (rows_written bytes)) short)
    (right (length bytes) (omega arith))))
    (λ (enough : sheet_length (rows_written bytes) ≤ length bytes).
    ⊎_elim
    (λ (longer : sheet_length (rows_written bytes) < length bytes). absurd (never_both (past_wrong bytes longer) (right _ (le_refl _))))
    (λ (no_longer : length bytes ≤ sheet_length (rows_written bytes)). le_antisymm no_longer enough)
    (below_or_from (sheet_length (rows_written bytes)) (length bytes)))
    (below_or_from (length bytes) (sheet_length (rows_written bytes)))

-- The search's answer, taken apart.
searched_means : (bytes : List ℕ) (r : Option ℕ) → Searched (wrong_at bytes) 0 (sheet_length (rows_written bytes) + 1) r → FormMeans bytes r
searched_means bytes none nothing =
    let right : (i : ℕ) → i ≤ sheet_length (rows_written bytes) → wrong_at bytes i ≡ false = λ i within. nothing i (omega arith) (omega arith) in
    let whole : length bytes ≡ sheet_length (rows_written bytes) = right_length bytes right in
    record { whole = whole; each = λ i inside. right_byte bytes i inside (right i (omega arith)) }
searched_means bytes (some place) first =
    let within : place < 0 + (sheet_length (rows_written bytes) + 1) = first.inside in
    let right : (i : ℕ) → i < place → wrong_at bytes i ≡ false = λ i below. first.lowest i (omega arith) below in
    let reached : place ≤ length bytes =
    ⊎_elim
    (λ (past : length bytes < place).
    let ended : sheet_length (rows_written bytes) ≤ length bytes =
    ltb-false (length bytes) _ (sym (wrong_end bytes (length bytes) (le_refl _)) ∙ right (length bytes) past) in
    absurd (omega arith))
    (λ (not_past : place ≤ length bytes). not_past)
    (below_or_from (length bytes) place) in
    record {
      reached = reached;
      before = λ i below. right_byte bytes i (omega arith) (right i below);
      here =
          ⊎_elim
          (λ (inside : place < length bytes).
          inr (record { inside = inside; refused = not-true _ (sym (wrong_byte bytes place inside) ∙ first.passes) }))
          (λ (past : length bytes ≤ place).
          inl (record { end = le_antisymm reached past; short = ltb-true place _ (sym (wrong_end bytes place past) ∙ first.passes) }))
          (below_or_from place (length bytes));
    }

-- The first wrong offset means what it says.
pub form_means : (bytes : List ℕ) → FormMeans bytes (first_wrong bytes)
unfolding first_wrong
form_means bytes = searched_means bytes (first_wrong bytes) (least_means (wrong_at bytes) 0 (sheet_length (rows_written bytes) + 1))

-- Bytes break the form at the announced length at the latest.
pub breaks_within : (bytes : List ℕ) (place : ℕ) → Breaks bytes place → place ≤ sheet_length (rows_written bytes)
unfolding sheet_length
breaks_within bytes place breaks =
    let full = head + line * rows_written bytes in
    let reached : place ≤ length bytes = breaks.reached in
    ⊎_elim
    (λ (later : full < place).
    absurd (never_both (breaks.before full later) (sheet_past (rows_written bytes) full _ (omega arith) (le_refl full))))
    (λ (within : place ≤ full). within)
    (below_or_from full place)

-- Where they break it, the offset is wrong.
breaks_wrong : (bytes : List ℕ) (place : ℕ) → Breaks bytes place → wrong_at bytes place ≡ true
breaks_wrong bytes place breaks =
    ⊎_elim
    (λ (ends : EndsAt bytes place).
    let end : place ≡ length bytes = ends.end in
    wrong_end bytes place (omega arith) ∙ lt-ltb place _ ends.short)
    (λ (byte : WrongByteAt bytes place). wrong_byte bytes place byte.inside ∙ ap not byte.refused)
    breaks.here

-- And nothing else means it.
pub form_fixed : (bytes : List ℕ) (r : Option ℕ) → FormMeans bytes r → first_wrong bytes ≡ r
form_fixed bytes none formed =
    let whole : length bytes ≡ sheet_length (rows_written bytes) = formed.whole in
    none_wrong bytes
    (λ k within.
    ⊎_elim (λ (inside : k < length bytes). byte_right bytes k inside (formed.each k inside))
    (λ (past : length bytes ≤ k). wrong_end bytes k past ∙ le-ltb k _ (omega arith))
    (below_or_from k (length bytes)))
form_fixed bytes (some place) breaks =
    let reached : place ≤ length bytes = breaks.reached in
    wrong_found bytes place (breaks_within bytes place breaks) (breaks_wrong bytes place breaks)
    (λ k below. byte_right bytes k (omega arith) (breaks.before k below))

-- Past line one the row count is two digits, so it is at most 255.
pub rows_limit : (bytes : List ℕ) → ((i : ℕ) → i < head → sheet_allows (rows_written bytes) i (get_or bytes i 0) ≡ true) → rows_written bytes ≤ 255
unfolding head rows_written
rows_limit bytes before =
    omega (
      arith,
      number_below bytes 4 2
          (λ i h.
          sym (sheet_head (number bytes 4 2) (4 + i) _ (omega arith) ∙ line_digit 0x31 6 (4 + i) _ (omega arith) (λ same. omega arith))
          ∙ before (4 + i) (omega arith)),
    )

-- So no sheet is refused at a place past the longest one: 5,362 bytes.
pub place_limit : (bytes : List ℕ) (place : ℕ) → Breaks bytes place → place ≤ sheet_length 255
unfolding sheet_length line
place_limit bytes place breaks =
    ⊎_elim (λ (early : place < head). omega arith)
    (λ (past : head ≤ place).
    omega (arith, breaks_within bytes place breaks, rows_limit bytes (λ i below. breaks.before i (omega arith))))
    (below_or_from place head)
