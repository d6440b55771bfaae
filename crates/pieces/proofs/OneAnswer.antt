-- Two results that the contract of an entry allows are equal, and so are two final contents of lent space: the contract is an equation.
use mathlib.Core.Path.{◌≡◌}
use mathlib.Core.List.{List}
use Prim.Native.Nat.{ℕ}
use lib.ListN.{length}
use Rattle.laws.proofs.Choice.{one_answer}
use Rattle.pieces.specs.declared.Pieces.{Pieces}
use Rattle.pieces.specs.declared.Fed.{Fed}
use Rattle.pieces.specs.declared.Ended.{Ended}
use Rattle.pieces.specs.Feeding.{fresh}
use Rattle.pieces.specs.Ending.{feeding, ending, words_after_end}

-- `start_sheet`, `feed_piece` and `end_sheet`.
pub start_unique : (first second : Pieces) → first ≡ fresh → second ≡ fresh → first ≡ second
start_unique first second = one_answer

pub feed_unique : (state : Pieces) (bytes : List ℕ) (first second : Fed) → first ≡ feeding state bytes → second ≡ feeding state bytes
    → first ≡ second
feed_unique state bytes first second = one_answer

pub end_unique : (state : Pieces) (words : List ℕ) (first second : Ended) → first ≡ ending state (length words) → second ≡ ending state (length words)
    → first ≡ second
end_unique state words first second = one_answer

pub end_words_unique : (state : Pieces) (words first second : List ℕ) → first ≡ words_after_end state words → second ≡ words_after_end state words
    → first ≡ second
end_words_unique state words first second = one_answer
