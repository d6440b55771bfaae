-- The end of a sheet that came in pieces: what it answers, the state behind it, and what it leaves in the lent words.
use Rattle.std.specs.Prelude.{Option as Maybe, Some, None, ◌&&◌, List, ℕ, ◌*◌, eqb, length, get_or}
use Rattle.std.proofs.Math.Option.{Option, none, some}
use Rattle.laws.specs.Choice.{pick, unless_refused}
use Rattle.laws.specs.Fill.{listed, at_front}
use Rattle.refusals.specs.Refusals.{Refusal}
use Rattle.grammar.specs.declared.Read.{Read}
use Rattle.grammar.specs.Grammar.{sheet_length}
use Rattle.rows.specs.Checks.{words_refusal}
use Rattle.grammar.specs.Sheets.{between_refusal, form_refusal, read_refused}
use Rattle.pieces.specs.declared.Reached.{Reached}
use Rattle.pieces.specs.declared.Pieces.{Pieces}
use Rattle.pieces.specs.declared.Fed.{Fed}
use Rattle.pieces.specs.declared.Ended.{Ended}
use Rattle.pieces.specs.Feeding.{announced, fed}

-- The first wrong offset, if there is one: a sheet is right where no byte was wrong and as many were taken as it announces; else it is wrong
-- behind the bytes taken.
unfoldable pub wrong_reached : Reached → Option ℕ
wrong_reached reached =
    pick (eqb reached.wrong 0 && eqb reached.taken (sheet_length (announced reached))) none (some reached.taken)

-- The words of the rows as they were read: three a row. One that the state has no place for counts 0.
unfoldable pub words_reached : Reached → List ℕ → List ℕ
words_reached reached words = listed (λ w. get_or words w 0) (3 * announced reached)

-- The checks on processors and the words of rows, with so many words of room: 2, 3, 4, 7, 8.
unfoldable pub judged_refusal : ℕ → List ℕ → ℕ → Refusal
judged_refusal processors words room = words_refusal words (between_refusal processors room (length words))

-- What is found: processors and rows, or the refusal and 0 for both.
unfoldable pub found_answer : Refusal → ℕ → ℕ → Read
found_answer refusal processors rows =
    unless_refused refusal.number (read_refused refusal.number refusal.place)
    (record { refusal = 0; place = 0; processors = processors; rows = rows })

-- The checks at the end: 1, 2, 3, 4, 7, 8, with the same judge as a sheet that is read at once.
unfoldable pub end_refusal : Reached → List ℕ → ℕ → Refusal
end_refusal reached words room =
    form_refusal (wrong_reached reached) (judged_refusal reached.processors (words_reached reached words) room)

-- What the end finds and leaves in lent words.
unfoldable pub end_found : Reached → List ℕ → ℕ → Read
end_found reached words room = found_answer (end_refusal reached words room) reached.processors (announced reached)

unfoldable pub end_leaves : Reached → List ℕ → List ℕ → List ℕ
end_leaves reached words lent = at_front (end_refusal reached words (length lent)).number (words_reached reached words) lent

-- What the end answers: what it finds, or, where the sheet has ended before, the answer already given.
unfoldable pub end_answer : Pieces → ℕ → Read
end_answer s room = pick (eqb s.ended 0) (end_found s.reached s.words room) s.answer

-- The state after the end.
unfoldable pub ended : Pieces → ℕ → Pieces
ended s room = pick (eqb s.ended 0) (record { reached = s.reached; words = s.words; ended = 1; answer = end_answer s room }) s

-- The lent words after the end: a second end changes nothing.
unfoldable pub words_after_end : Pieces → List ℕ → List ℕ
words_after_end s lent = pick (eqb s.ended 0) (end_leaves s.reached s.words lent) lent

-- The answer that a piece finds: none yet, or the one that the end gave.
abbrev pub Given : Type 0
Given = Maybe Read

unfoldable pub given : Pieces → Given
given s = pick (eqb s.ended 0) None (Some s.answer)

-- What a piece returns, and what the end returns.
unfoldable pub feeding : Pieces → List ℕ → Fed
feeding s bytes = record { state = fed s bytes; answer = given s }

unfoldable pub ending : Pieces → ℕ → Ended
ending s room = record { state = ended s room; answer = end_answer s room }
