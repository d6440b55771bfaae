-- What only inner functions and proofs cite: no user need believe it.
use Rattle.std.specs.Prelude.{◌≡◌, Bool, false, List, ℕ, ◌-◌, ◌%◌, ◌≤◌, ◌<◌, ltb, length, drop}
use Rattle.laws.specs.Choice.{pick}
use Rattle.grammar.specs.declared.Read.{Read}
use Rattle.grammar.specs.Grammar.{head, line, line_allows}
use Rattle.pieces.specs.declared.Reached.{Reached}
use Rattle.pieces.specs.declared.Pieces.{Pieces}
use Rattle.pieces.specs.Feeding.{fed}

-- The state of a sheet that has not ended, by its parts.
abbrev pub in_hand : Reached → List ℕ → Read → Pieces
in_hand reached words answer = record { reached = reached; words = words; ended = 0; answer = answer }

-- From one reached place and words to another, by a piece, whatever answer the state holds.
abbrev pub Takes : Reached → List ℕ → List ℕ → Reached → List ℕ → Type 0
Takes start words bytes reached after = (answer : Read) → fed (in_hand start words answer) bytes ≡ in_hand reached after answer

-- What a piece gives line one: whatever the words and the answer, the rest of the piece goes on from there. Where line one is not whole and
-- no byte was wrong, there is no rest.
pub record TakesFirst (start : Reached) (bytes : List ℕ) (reached : Reached) : Type 0 where
  pub goes_on : (words : List ℕ) (answer : Read)
      → fed (in_hand start words answer) bytes ≡ fed (in_hand reached words answer) (drop (reached.taken - start.taken) bytes)
  pub from : start.taken ≤ reached.taken
  pub inside : reached.taken - start.taken ≤ length bytes
  pub no_rest : reached.wrong ≡ 0 → reached.taken < head → length bytes ≤ reached.taken - start.taken

-- The same line one, with so many bytes taken and the next wrong (1) or not (0).
abbrev pub moved_to : Reached → ℕ → ℕ → Reached
moved_to reached taken wrong = record { taken = taken; wrong = wrong; processors = reached.processors; rows = reached.rows }

-- Whether a byte may stand at an offset behind line one of a sheet that announces so many bytes.
unfoldable pub row_allows : ℕ → ℕ → ℕ → Bool
row_allows full offset byte = pick (ltb offset full) (line_allows 0x32 (line - 1) ((offset - head) % line) byte) false
