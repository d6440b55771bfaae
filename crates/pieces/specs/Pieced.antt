-- Many pieces, one after the other, the sheet that they are in a row, and what the state holds of its bytes.
use Rattle.std.specs.Prelude.{◌≡◌, true, List, [], ◌∷◌, ◌++◌, ℕ, ◌-◌, ◌<◌, min, length, get_or}
use Rattle.laws.specs.Fill.{listed}
use Rattle.digits.specs.Digits.{number}
use Rattle.grammar.specs.Grammar.{sheet_allows, rows_written}
use Rattle.grammar.specs.Lines.{word_offset}
use Rattle.grammar.specs.Sheets.{read_refused}
use Rattle.pieces.specs.declared.Reached.{Reached}
use Rattle.pieces.specs.declared.Pieces.{Pieces}
use Rattle.pieces.specs.Feeding.{fed}
use Rattle.pieces.specs.Ending.{end_answer, ended, words_after_end}

-- The state after the pieces of a list, first to last.
unfoldable pub fed_all : Pieces → List (List ℕ) → Pieces
fed_all s [] = s
fed_all s (piece ∷ pieces) = fed_all (fed s piece) pieces

-- The bytes of all pieces in a row.
unfoldable pub in_a_row : List (List ℕ) → List ℕ
in_a_row [] = []
in_a_row (piece ∷ pieces) = piece ++ in_a_row pieces

-- Whatever comes behind an end, pieces of any number and a second end with whatever room, leaves the state, the answer and the lent words.
pub record EndsOnce (s : Pieces) (room : ℕ) (pieces : List (List ℕ)) (lent : List ℕ) : Type 0 where
  pub state : ended (fed_all (ended s room) pieces) (length lent) ≡ ended s room
  pub answer : end_answer (fed_all (ended s room) pieces) (length lent) ≡ end_answer s room
  pub words : words_after_end (fed_all (ended s room) pieces) lent ≡ lent

-- Each byte below a place may stand where it stands.
abbrev pub RightBelow : List ℕ → ℕ → Type 0
RightBelow bytes place = (i : ℕ) → i < place → sheet_allows (rows_written bytes) i (get_or bytes i 0) ≡ true

-- The number that stands in `count` digits from offset `at` on, as far as the bytes taken go.
unfoldable pub so_far : List ℕ → ℕ → ℕ → ℕ → ℕ
so_far bytes at count taken = number bytes at (min count (taken - at))

-- What the state holds where so many bytes were taken and the next was wrong (1) or not (0): line one and the words of the rows so far.
unfoldable pub reached_at : List ℕ → ℕ → ℕ → Reached
reached_at bytes taken wrong = record { taken = taken; wrong = wrong; processors = so_far bytes 2 2 taken; rows = so_far bytes 4 2 taken }

unfoldable pub state_at : List ℕ → ℕ → ℕ → Pieces
state_at bytes taken wrong =
    record {
      reached = reached_at bytes taken wrong;
      words = listed (λ w. so_far bytes (word_offset w) 6 taken) 192;
      ended = 0;
      answer = read_refused 0 0;
    }
