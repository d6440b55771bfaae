-- The end, case by case: a wrong byte or a wrong length is refusal 1, more than 64 rows are refusal 3, and the rest is judged.
use mathlib.Core.Path.{◌≡◌, sym, ◌∙◌}
use mathlib.Core.List.{List}
use mathlib.Core.Option.{none, some}
use Prim.Native.Nat.{ℕ, ◌*◌, ◌≤◌, ◌<◌}
use borrow.Author.Tests.{eq-eqb, ne_eqb}
use lib.ListN.{length, get_or, take}
use lib.Seq.{ext_get_or, length-take-le, get_or-take}
use Rattle.laws.specs.Fill.{listed, at_front}
use Rattle.laws.proofs.Choice.{pick_yes, pick_no, and_both, and_fails, and_holds}
use Rattle.laws.proofs.Fill.{listed-length, listed_at}
use Rattle.refusals.specs.Refusals.{Refusal}
use Rattle.refusals.specs.Refusals.{refused}
use Rattle.grammar.specs.declared.Read.{Read}
use Rattle.grammar.specs.Grammar.{sheet_length}
use Rattle.grammar.specs.Sheets.{form_refusal, read_refused}
use Rattle.pieces.specs.declared.Reached.{Reached}
use Rattle.pieces.specs.Feeding.{announced}
use Rattle.pieces.specs.Ending.{judged_refusal, found_answer, wrong_reached, words_reached, end_refusal, end_found, end_leaves}
use Rattle.pieces.proofs.Judged.{finding_refused, judged_many}

-- The first wrong offset: behind the bytes taken where a byte was wrong or not as many were taken as are announced, else none.
module _ (reached : Reached) where
  pub byte_wrong : (reached.wrong ≡ 0 → ⊥) → wrong_reached reached ≡ some reached.taken
  unfolding wrong_reached
  byte_wrong wrong = pick_no _ _ _ (and_fails _ _ (ne_eqb reached.wrong 0 wrong))

  pub length_wrong : reached.wrong ≡ 0 → (reached.taken ≡ sheet_length (announced reached) → ⊥) → wrong_reached reached ≡ some reached.taken
  unfolding wrong_reached
  length_wrong none_wrong other =
      pick_no _ _ _ (and_holds _ _ (eq-eqb reached.wrong 0 none_wrong) ∙ ne_eqb reached.taken (sheet_length (announced reached)) other)

  pub none_wrong : reached.wrong ≡ 0 → reached.taken ≡ sheet_length (announced reached) → wrong_reached reached ≡ none
  unfolding wrong_reached
  none_wrong right whole =
      pick_yes _ _ _ (and_both _ _ (eq-eqb reached.wrong 0 right) (eq-eqb reached.taken (sheet_length (announced reached)) whole))

-- The refusal that follows.
module _ (reached : Reached) (words : List ℕ) (room : ℕ) where
  pub end_wrong : (place : ℕ) → wrong_reached reached ≡ some place → end_refusal reached words room ≡ refused 1 place
  unfolding end_refusal form_refusal
  end_wrong place wrong = rw wrong

  pub end_judged : wrong_reached reached ≡ none → end_refusal reached words room ≡ judged_refusal reached.processors (words_reached reached words) room
  unfolding end_refusal form_refusal
  end_judged right = rw right

  pub end_many : wrong_reached reached ≡ none → 64 < announced reached → end_refusal reached words room ≡ refused 3 0
  unfolding words_reached
  end_many right many = end_judged right ∙ judged_many reached.processors _ (announced reached) room (listed-length _ _) many

-- A refusal is what is found, and no lent word changes.
pub end_refused : (reached : Reached) (words lent : List ℕ) (refusal : Refusal) (r : Read) → r ≡ read_refused refusal.number refusal.place
    → end_refusal reached words (length lent) ≡ refusal → (refusal.number ≡ 0 → ⊥)
    → (r ≡ end_found reached words (length lent)) × (lent ≡ end_leaves reached words lent)
unfolding end_found end_leaves
end_refused reached words lent refusal r returned found holds =
    finding_refused refusal _ reached.processors (announced reached) (words_reached reached words) lent r returned (sym found) holds

-- Where the words have a place each, those at the front are judged.
words_front : (reached : Reached) (words : List ℕ) → 3 * announced reached ≤ length words → words_reached reached words ≡ take (3 * announced reached) words
unfolding words_reached
words_front reached words enough =
    let n = 3 * announced reached in
    ext_get_or 0 (listed (λ w. get_or words w 0) n) (take n words) (listed-length _ n ∙ sym (length-take-le n words enough))
    (λ i below.
    let inside : i < 3 * announced reached = rw listed-length at below in
    listed_at (λ w. get_or words w 0) n i inside ∙ sym (get_or-take n words i 0 inside))

pub end_answered : (reached : Reached) (words lent left : List ℕ) (r : Read)
    → let front = take (3 * announced reached) words in
    let refusal = judged_refusal reached.processors front (length lent) in
    3 * announced reached ≤ length words → wrong_reached reached ≡ none
    → (r ≡ found_answer refusal reached.processors (announced reached)) × (left ≡ at_front refusal.number front lent)
    → (r ≡ end_found reached words (length lent)) × (left ≡ end_leaves reached words lent)
unfolding end_found end_leaves
end_answered reached words lent left r enough right judged =
    rw (end_judged reached words (length lent) right, words_front reached words enough) judged
