-- What a piece and an end return and leave behind: behind the end nothing new, before it what was taken and what was found.
use mathlib.Core.Path.{◌≡◌, sym, ◌∙◌, ap, ap₂}
use mathlib.Core.List.{List}
use Prim.Native.Nat.{ℕ}
use borrow.Author.Tests.{eq-eqb, ne_eqb}
use lib.ListN.{length}
use Rattle.std.specs.declared.option.Option.TheVariants.{Some, None}
use Rattle.laws.proofs.Choice.{pick_yes, pick_no}
use Rattle.grammar.specs.declared.Read.{Read}
use Rattle.pieces.specs.declared.Reached.{Reached}
use Rattle.pieces.specs.declared.Pieces.{Pieces}
use Rattle.pieces.specs.declared.Fed.{Fed}
use Rattle.pieces.specs.declared.Ended.{Ended}
use Rattle.pieces.specs.Feeding.{moved_on, fed}
use Rattle.pieces.specs.Ending.{end_found, end_leaves, end_answer, ended, words_after_end, Given, given, feeding, ending}
use Rattle.pieces.specs.Inner.{in_hand, Takes}
use Rattle.pieces.proofs.Cut.{fed_after, end_after, words_after}

abbrev fed_with : Pieces → Given → Fed
fed_with state answer = record { state = state; answer = answer }

abbrev ended_with : Pieces → Read → Ended
ended_with state answer = record { state = state; answer = answer }

module _ (s : Pieces) (after : s.ended ≡ 0 → ⊥) where
  pub feeding_after : (bytes : List ℕ) → fed_with s (Some s.answer) ≡ feeding s bytes
  unfolding feeding given
  feeding_after bytes = sym (ap₂ fed_with (fed_after s bytes after) (pick_no _ _ _ (ne_eqb s.ended 0 after)))

  pub ending_after : (lent : List ℕ) → (ended_with s s.answer ≡ ending s (length lent)) × (lent ≡ words_after_end s lent)
  unfolding ending
  ending_after lent =
      let same = end_after s (length lent) after in
      (sym (ap₂ ended_with same.0 same.1), sym (words_after s lent after))

module _ (s : Pieces) (before : s.ended ≡ 0) where
  pub feeding_on : (bytes words : List ℕ) (reached : Reached) → Takes s.reached s.words bytes reached words
      → fed_with (moved_on s reached words) None ≡ feeding s bytes
  unfolding feeding given
  feeding_on bytes words reached takes =
      let as_ended : (r : Reached) (l : List ℕ) → moved_on s r l ≡ in_hand r l s.answer = λ r l. rw before in
      sym
      (ap₂ fed_with
      (ap (λ (t : Pieces). fed t bytes) (as_ended s.reached s.words) ∙ takes s.answer ∙ sym (as_ended reached words))
      (pick_yes _ _ _ (eq-eqb s.ended 0 before)))

  pub ending_on : (lent left : List ℕ) (r : Read)
      → (r ≡ end_found s.reached s.words (length lent)) × (left ≡ end_leaves s.reached s.words lent)
      → (ended_with (record { reached = s.reached; words = s.words; ended = 1; answer = r }) r ≡ ending s (length lent)) × (left ≡ words_after_end s lent)
  unfolding ending ended end_answer words_after_end
  ending_on lent left r found =
      let is_before = eq-eqb s.ended 0 before in
      (rw (is_before, found.0), found.1 ∙ sym (pick_yes _ _ _ is_before))
