-- The end after all bytes finds what reading them at once finds: the same first wrong offset, and where there is none the same processors,
-- rows and words, so that the same judge answers.
use mathlib.Core.Path.{◌≡◌, refl, sym, ◌∙◌, ap, ap₂}
use mathlib.Core.List.{List}
use mathlib.Core.Logic.{⊎_elim}
use mathlib.Core.Option.{Option, none, some}
use Prim.Native.Nat.{ℕ, ◌+◌, ◌*◌, ◌/◌, ◌%◌, ◌≤◌, ◌<◌}
use native.Mathlib.Omega.{arith}
use borrow.Author.Tests.{eq-eqb}
use lib.ListN.{length}
use Rattle.laws.specs.Fill.{at_front}
use Rattle.laws.proofs.Choice.{pick_yes}
use Rattle.laws.proofs.Order.{below_or_from}
use Rattle.laws.proofs.Fill.{listed_at, listed_same, front_left}
use Rattle.refusals.specs.Refusals.{Refusal}
use Rattle.refusals.specs.Refusals.{refused}
use Rattle.grammar.specs.Grammar.{head, line, sheet_length, processors_written, rows_written, first_wrong}
use Rattle.grammar.specs.Lines.{word_offset, word_written, words_written}
use Rattle.grammar.specs.Meaning.{Formed, EndsAt, WrongByteAt, Breaks, FormMeans}
use Rattle.grammar.specs.Sheets.{read_refusal, read_refused, read_sheet, words_after}
use Rattle.grammar.proofs.Meaning.{form_means, form_fixed}
use Rattle.grammar.proofs.Refusals.{words_length, form_wrong, form_right}
use Rattle.pieces.specs.declared.Reached.{Reached}
use Rattle.pieces.specs.declared.Pieces.{Pieces}
use Rattle.pieces.specs.Feeding.{fresh, announced, fed}
use Rattle.pieces.specs.Ending.{judged_refusal, found_answer, wrong_reached, words_reached, end_refusal, end_found, end_leaves, end_answer, words_after_end}
use Rattle.pieces.specs.Pieced.{RightBelow, so_far, reached_at, state_at, fed_all, in_a_row}
use Rattle.pieces.specs.Inner.{in_hand}
use Rattle.pieces.proofs.Cut.{fed_all_lem, fed_keeps}
use Rattle.pieces.proofs.SoFar.{whole_number, rows_announced, held_right, held_wrong}
use Rattle.pieces.proofs.Judged.{found_refused, judged_many, formed_judged, read_found}
use Rattle.pieces.proofs.Ending.{byte_wrong, length_wrong, none_wrong, end_wrong, end_judged, end_many}

-- The end of a state finds and leaves what reading bytes at once does.
record AtOnce (bytes : List ℕ) (s : Pieces) : Type 0 where
  found : (room : ℕ) → end_found s.reached s.words room ≡ read_sheet bytes room
  leaves : (lent : List ℕ) → end_leaves s.reached s.words lent ≡ words_after bytes lent

-- Where both refuse with the same refusal, nothing else is found, and no word changes.
both_refused : (bytes : List ℕ) (s : Pieces) (refusal : Refusal) → (refusal.number ≡ 0 → ⊥)
    → ((room : ℕ) → end_refusal s.reached s.words room ≡ refusal) → ((room : ℕ) → read_refusal bytes room ≡ refusal) → AtOnce bytes s
unfolding end_found end_leaves read_sheet words_after
both_refused bytes s refusal holds here there =
    record {
      found = λ room. rw (here room, there room) (sym (found_refused refusal _ _ holds) ∙ found_refused refusal _ _ holds ∙ sym (read_found refusal bytes));
      leaves = λ lent.
          rw (here (length lent), there (length lent)) (sym (front_left refusal.number _ lent holds) ∙ front_left refusal.number _ lent holds);
    }

-- Where the first wrong offset is behind the bytes taken, and the bytes break the form there, both refuse with 1.
wrong_refused : (bytes : List ℕ) (s : Pieces) (place : ℕ) → Breaks bytes place → wrong_reached s.reached ≡ some place → AtOnce bytes s
wrong_refused bytes s place breaks wrong =
    both_refused bytes s (refused 1 place) (λ none_holds. omega arith) (λ room. end_wrong s.reached s.words room place wrong)
    (λ room. form_wrong bytes room place (form_fixed bytes (some place) breaks))

-- What is reached, and the words, where all bytes were right.
abbrev reached_all : List ℕ → Reached
reached_all bytes = reached_at bytes (length bytes) 0

abbrev words_all : List ℕ → List ℕ
words_all bytes = (state_at bytes (length bytes) 0).words

-- In bytes of the form, processors, rows and words are then those of the sheet.
module _ (bytes : List ℕ) (formed : Formed bytes) where
  past_head : head ≤ length bytes
  unfolding sheet_length
  past_head = let whole : length bytes ≡ head + line * rows_written bytes = formed.whole in omega arith

  rows_are : announced (reached_all bytes) ≡ rows_written bytes
  rows_are = rows_announced bytes (length bytes) 0 past_head formed.each

  processors_are : (reached_all bytes).processors ≡ processors_written bytes
  unfolding reached_at processors_written head
  processors_are = let long = past_head in whole_number bytes 2 2 (length bytes) (omega arith)

  all_right : wrong_reached (reached_all bytes) ≡ none
  unfolding reached_at
  all_right = none_wrong (reached_all bytes) refl (formed.whole ∙ ap sheet_length (sym rows_are))

  -- A word of the rows is whole.
  word_whole : (w : ℕ) → w < 3 * rows_written bytes → so_far bytes (word_offset w) 6 (length bytes) ≡ word_written bytes w
  unfolding word_offset word_written sheet_length head line
  word_whole w below =
      let whole : length bytes ≡ 7 + 21 * rows_written bytes = formed.whole in
      whole_number bytes (7 + 21 * (w / 3) + 2 + 6 * (w % 3)) 6 (length bytes) (omega arith)

  -- The words of up to 64 rows have a place each.
  words_are : rows_written bytes ≤ 64 → words_reached (reached_all bytes) (words_all bytes) ≡ words_written bytes
  unfolding words_reached state_at words_written
  words_are few =
      rw rows_are
      (listed_same _ (word_written bytes) (3 * rows_written bytes)
      (λ w below. listed_at (λ w. so_far bytes (word_offset w) 6 (length bytes)) 192 w (omega arith) ∙ word_whole w below))

  read_checks : (room : ℕ) → read_refusal bytes room ≡ judged_refusal (processors_written bytes) (words_written bytes) room
  read_checks room = form_right bytes room (form_fixed bytes none formed) ∙ formed_judged bytes room

  same_checks : rows_written bytes ≤ 64 → (room : ℕ) → end_refusal (reached_all bytes) (words_all bytes) room ≡ read_refusal bytes room
  same_checks few room =
      end_judged (reached_all bytes) (words_all bytes) room all_right
      ∙ ap₂ (λ (processors : ℕ) (words : List ℕ). judged_refusal processors words room) processors_are (words_are few)
      ∙ sym (read_checks room)

  -- Up to 64 rows the words are the same, and more are refused whatever they are.
  few_rows : rows_written bytes ≤ 64 → AtOnce bytes (state_at bytes (length bytes) 0)
  unfolding end_found end_leaves read_sheet words_after state_at
  few_rows few =
      record {
        found = λ room.
            ap (λ (f : Refusal). found_answer f (reached_all bytes).processors (announced (reached_all bytes))) (same_checks few room)
            ∙ ap₂ (found_answer (read_refusal bytes room)) processors_are rows_are
            ∙ sym (read_found (read_refusal bytes room) bytes);
        leaves = λ lent.
            ap₂ (λ (f : Refusal) (words : List ℕ). at_front f.number words lent) (same_checks few (length lent)) (words_are few);
      }

  many_rows : 64 < rows_written bytes → AtOnce bytes (state_at bytes (length bytes) 0)
  unfolding state_at
  many_rows many =
      both_refused bytes (state_at bytes (length bytes) 0) (refused 3 0) (λ none_holds. omega arith)
      (λ room. end_many (reached_all bytes) (words_all bytes) room all_right (rw rows_are many))
      (λ room. read_checks room ∙ judged_many (processors_written bytes) (words_written bytes) (rows_written bytes) room (words_length bytes) many)

  right_at_once : AtOnce bytes (fed fresh bytes)
  right_at_once =
      rw (held_right bytes formed.each)
      (⊎_elim (λ (many : 64 < rows_written bytes). many_rows many) (λ (few : rows_written bytes ≤ 64). few_rows few)
      (below_or_from 64 (rows_written bytes)))

-- Bytes that break the form are refused where they do: where they end, short of what they announce, or at the wrong byte.
ends_short : (bytes : List ℕ) (place : ℕ) → place < sheet_length (rows_written bytes)
    → RightBelow bytes place → wrong_reached (reached_at bytes place 0) ≡ some place
unfolding reached_at sheet_length
ends_short bytes place short right =
    length_wrong (reached_at bytes place 0) refl
    (λ (whole : place ≡ head + line * announced (reached_at bytes place 0)).
    ⊎_elim (λ (early : place < head). omega arith)
    (λ (past : head ≤ place). omega (arith, ap (λ (rows : ℕ). line * rows) (rows_announced bytes place 0 past right)))
    (below_or_from place head))

stops_there : (bytes : List ℕ) (place : ℕ) → wrong_reached (reached_at bytes place 1) ≡ some place
unfolding reached_at
stops_there bytes place = byte_wrong (reached_at bytes place 1) (λ zero. omega arith)

wrong_at_once : (bytes : List ℕ) (place : ℕ) → Breaks bytes place → AtOnce bytes (fed fresh bytes)
unfolding state_at
wrong_at_once bytes place breaks =
    ⊎_elim
    (λ (ends : EndsAt bytes place).
    let held : fed fresh bytes ≡ state_at bytes place 0 = rw ends.end (held_right bytes (rw ends.end at breaks.before)) in
    rw held (wrong_refused bytes (state_at bytes place 0) place breaks (ends_short bytes place ends.short breaks.before)))
    (λ (wrong : WrongByteAt bytes place).
    rw (held_wrong bytes place wrong breaks.before) (wrong_refused bytes (state_at bytes place 1) place breaks (stops_there bytes place)))
    breaks.here

by_at_once : (bytes : List ℕ) → AtOnce bytes (fed fresh bytes)
by_at_once bytes = split (first_wrong bytes) (form_means bytes)
  where
    split : (r : Option ℕ) → FormMeans bytes r → AtOnce bytes (fed fresh bytes)
    split none formed = right_at_once bytes formed
    split (some place) breaks = wrong_at_once bytes place breaks

-- However a sheet is cut, its end answers and leaves what reading all its bytes at once does.
pub end_reads : (pieces : List (List ℕ)) (room : ℕ) → end_answer (fed_all fresh pieces) room ≡ read_sheet (in_a_row pieces) room
unfolding end_answer fresh
end_reads pieces room =
    rw (fed_all_lem fresh pieces)
    (pick_yes _ _ _ (eq-eqb _ 0 (fed_keeps fresh (in_a_row pieces)).0) ∙ (by_at_once (in_a_row pieces)).found room)

pub end_writes : (pieces : List (List ℕ)) (lent : List ℕ) → words_after_end (fed_all fresh pieces) lent ≡ words_after (in_a_row pieces) lent
unfolding words_after_end fresh
end_writes pieces lent =
    rw (fed_all_lem fresh pieces)
    (pick_yes _ _ _ (eq-eqb _ 0 (fed_keeps fresh (in_a_row pieces)).0) ∙ (by_at_once (in_a_row pieces)).leaves lent)

-- A sheet that is fed whole, and then ends, is read.
pub whole_reads : (bytes words : List ℕ) (reached : Reached) → fed fresh bytes ≡ in_hand reached words (read_refused 0 0)
    → ((room : ℕ) → end_found reached words room ≡ read_sheet bytes room) × ((lent : List ℕ) → end_leaves reached words lent ≡ words_after bytes lent)
whole_reads bytes words reached held = let facts = rw held at (by_at_once bytes) in (facts.found, facts.leaves)
