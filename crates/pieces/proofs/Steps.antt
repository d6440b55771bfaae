-- One byte more, case by case: right or wrong, in line one or behind it. Line one has no digit of a word, and a row none of line one.
use mathlib.Core.Path.{◌≡◌, refl, ◌∙◌, ap, ap₂}
use mathlib.Core.Bool.{true, false}
use mathlib.Core.List.{List}
use mathlib.Core.Logic.{⊎_elim}
use Prim.Native.Nat.{ℕ, ◌+◌, ◌*◌, ◌%◌, ◌≤◌, ◌<◌}
use native.Mathlib.Omega.{arith}
use borrow.Author.Tests.{eq-eqb, ne_eqb, le-ltb}
use Rattle.laws.proofs.Order.{below_or_from}
use Rattle.laws.proofs.Choice.{never_both, pick_yes, pick_no, and_both, and_holds}
use Rattle.grammar.specs.declared.Read.{Read}
use Rattle.grammar.specs.Grammar.{head, line, sheet_length, sheet_allows}
use Rattle.pieces.specs.declared.Reached.{Reached}
use Rattle.pieces.specs.Feeding.{announced, reached_with, reached_wrong, words_with, counts, fed_byte, fed}
use Rattle.pieces.specs.Inner.{in_hand, moved_to, row_allows}
use Rattle.pieces.proofs.Cut.{fed_uncounted}
use Rattle.pieces.proofs.Words.{byte_behind, no_word}

module _ (reached : Reached) (words : List ℕ) (answer : Read) where
  -- Behind a wrong byte nothing changes.
  pub stuck : (bytes : List ℕ) → (reached.wrong ≡ 0 → ⊥) → fed (in_hand reached words answer) bytes ≡ in_hand reached words answer
  unfolding counts
  stuck bytes wrong = fed_uncounted (in_hand reached words answer) bytes (and_holds _ _ (eq-eqb 0 0 refl) ∙ ne_eqb reached.wrong 0 wrong)

  pub right_step : (byte : ℕ) → reached.wrong ≡ 0 → sheet_allows (announced reached) reached.taken byte ≡ true
      → fed_byte (in_hand reached words answer) byte ≡ in_hand (reached_with reached byte) (words_with reached.taken byte words) answer
  unfolding fed_byte counts
  right_step byte none_wrong allowed =
      pick_yes _ _ _ (and_both _ _ (eq-eqb 0 0 refl) (eq-eqb reached.wrong 0 none_wrong)) ∙ pick_yes _ _ _ allowed

  pub wrong_step : (byte : ℕ) → reached.wrong ≡ 0 → sheet_allows (announced reached) reached.taken byte ≡ false
      → fed_byte (in_hand reached words answer) byte ≡ in_hand (moved_to reached reached.taken 1) words answer
  unfolding fed_byte counts reached_wrong
  wrong_step byte none_wrong refused =
      pick_yes _ _ _ (and_both _ _ (eq-eqb 0 0 refl) (eq-eqb reached.wrong 0 none_wrong)) ∙ pick_no _ _ _ refused

-- In line one no word changes.
pub first_words : (offset byte : ℕ) (words : List ℕ) → offset < head → words ≡ words_with offset byte words
unfolding head
first_words offset byte words first = no_word offset byte words (λ w below its. let past : 7 ≤ offset = its.past in omega arith)

-- Behind it line one does not change.
row_reached : (reached : Reached) (taken byte : ℕ) → head ≤ taken → reached_with (moved_to reached taken 0) byte ≡ moved_to reached (taken + 1) 0
unfolding reached_with head
row_reached reached taken byte past =
    ap₂ (λ (processors rows : ℕ). record { taken = taken + 1; wrong = 0; processors = processors; rows = rows })
    (byte_behind 2 2 taken byte reached.processors (omega arith) (omega arith))
    (byte_behind 4 2 taken byte reached.rows (omega arith) (omega arith))

-- And what may stand is what the rows' lines allow.
pub row_allows_lem : (rows taken byte : ℕ) → head ≤ taken → sheet_allows rows taken byte ≡ row_allows (sheet_length rows) taken byte
unfolding sheet_allows row_allows
row_allows_lem rows taken byte past = pick_no _ _ _ (le-ltb taken head past)

-- They allow nothing past the announced length, which is 5,362 at most.
pub row_inside : (reached : Reached) (taken byte : ℕ) → row_allows (sheet_length (announced reached)) taken byte ≡ true → taken < 5362
unfolding row_allows sheet_length announced head line
row_inside reached taken byte allowed =
    ⊎_elim (λ (inside : taken < 7 + 21 * (reached.rows % 256)). omega arith)
    (λ (past : 7 + 21 * (reached.rows % 256) ≤ taken). absurd (never_both allowed (pick_no _ _ _ (le-ltb taken _ past))))
    (below_or_from taken (7 + 21 * (reached.rows % 256)))

-- A byte behind line one, right or wrong, by what was reached when the piece began.
module _ (start : Reached) (words : List ℕ) (answer : Read) (taken byte : ℕ) (past : head ≤ taken) where
  pub row_right : row_allows (sheet_length (announced start)) taken byte ≡ true
      → fed_byte (in_hand (moved_to start taken 0) words answer) byte ≡ in_hand (moved_to start (taken + 1) 0) (words_with taken byte words) answer
  unfolding announced
  row_right allowed =
      right_step (moved_to start taken 0) words answer byte refl (row_allows_lem (announced start) taken byte past ∙ allowed)
      ∙ ap (λ (reached : Reached). in_hand reached (words_with taken byte words) answer) (row_reached start taken byte past)

  pub row_wrong : row_allows (sheet_length (announced start)) taken byte ≡ false
      → fed_byte (in_hand (moved_to start taken 0) words answer) byte ≡ in_hand (moved_to start taken 1) words answer
  unfolding announced
  row_wrong refused = wrong_step (moved_to start taken 0) words answer byte refl (row_allows_lem (announced start) taken byte past ∙ refused)
