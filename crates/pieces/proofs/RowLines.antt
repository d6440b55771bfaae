-- What a piece gives the rows' lines, byte by byte: the loop has passed right bytes only, and each has put its digit.
use mathlib.Core.Path.{◌≡◌, sym, ◌∙◌, ap}
use mathlib.Core.Bool.{true, false}
use mathlib.Core.List.{List}
use Prim.Native.Nat.{ℕ, ◌+◌, ◌≤◌, ◌<◌}
use native.Mathlib.Omega.{arith}
use lib.ListN.{length, get_or, drop}
use lib.Seq.{drop-length}
use Rattle.laws.proofs.Fill.{listed-length}
use Rattle.grammar.specs.declared.Read.{Read}
use Rattle.grammar.specs.Grammar.{head, sheet_length}
use Rattle.pieces.specs.declared.Reached.{Reached}
use Rattle.pieces.specs.Feeding.{announced, words_with, fed}
use Rattle.pieces.specs.Inner.{in_hand, Takes, moved_to, row_allows}
use Rattle.pieces.proofs.Cut.{fed-none, fed_next}
use Rattle.pieces.proofs.Steps.{stuck, row_right, row_wrong}

-- So many bytes of a piece passed, all right, and the words with their digits.
pub record Going (start : Reached) (bytes before words : List ℕ) (taken passed : ℕ) : Type 0 where
  pub past : head ≤ taken
  pub inside : passed ≤ length bytes
  pub kept : length words ≡ length before
  pub goes_on : (answer : Read) → fed (in_hand start before answer) bytes ≡ fed (in_hand (moved_to start taken 0) words answer) (drop passed bytes)

-- A digit more leaves as many words.
words_kept : (offset byte : ℕ) (words : List ℕ) → length (words_with offset byte words) ≡ length words
unfolding words_with
words_kept offset byte words = listed-length _ (length words)

module _ (start : Reached) (bytes before words : List ℕ) (taken passed : ℕ) (going : Going start bytes before words taken passed) where
  -- The piece is at its end.
  pub going_done : length bytes ≤ passed → Takes start before bytes (moved_to start taken 0) words
  going_done all answer =
      let whole : passed ≡ length bytes = let inside = going.inside in omega arith in
      going.goes_on answer ∙ ap (fed (in_hand (moved_to start taken 0) words answer)) (rw whole (drop-length bytes)) ∙ fed-none _

  module _ (inside : passed < length bytes) where
    -- A right byte more, and a wrong one.
    pub going_more : (after : List ℕ) → row_allows (sheet_length (announced start)) taken (get_or bytes passed 0) ≡ true
        → after ≡ words_with taken (get_or bytes passed 0) words → Going start bytes before after (taken + 1) (passed + 1)
    going_more after right put =
        let past : head ≤ taken = going.past in
        record {
          past = omega arith;
          inside = omega arith;
          kept = ap length put ∙ words_kept taken (get_or bytes passed 0) words ∙ going.kept;
          goes_on = λ answer.
              going.goes_on answer
              ∙ fed_next _ _ bytes passed inside
              (row_right start words answer taken (get_or bytes passed 0) past right
              ∙ ap (λ (l : List ℕ). in_hand (moved_to start (taken + 1) 0) l answer) (sym put));
        }

    pub going_wrong : row_allows (sheet_length (announced start)) taken (get_or bytes passed 0) ≡ false
        → Takes start before bytes (moved_to start taken 1) words
    going_wrong wrong answer =
        going.goes_on answer
        ∙ fed_next _ _ bytes passed inside (row_wrong start words answer taken (get_or bytes passed 0) going.past wrong)
        ∙ stuck (moved_to start taken 1) words answer (drop (passed + 1) bytes) (λ zero. omega arith)
