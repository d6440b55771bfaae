-- The result sheet of rows, and the whole answer to a sheet's bytes: what is returned and what is left in lent space, refused or not.
use Rattle.std.specs.Prelude.{◌≡◌, Bool, List, ℕ, ◌+◌, ◌*◌, ◌<◌, length, get_or}
use Rattle.laws.specs.Choice.{unless_refused}
use Rattle.laws.specs.Fill.{at_front}
use Rattle.laws.specs.Bits.{bit}
use Rattle.model.specs.Refine.{at_once, Ask, marked, accepted}
use Rattle.model.specs.Sheet.{Sheet}
use Rattle.digits.specs.Digits.{number}
use Rattle.refusals.specs.Refusals.{Refusal}
use Rattle.rows.specs.Words.{sheet_of}
use Rattle.rows.specs.Checks.{room_refusal}
use Rattle.refusals.specs.Refusals.{refused}
use Rattle.rows.specs.Layouts.{Lent, in_triples}
use Rattle.refinement.specs.Refinement.{refine_refusal_of, final_marks, handed, Refinable}
use Rattle.grammar.specs.declared.Written.{Written}
use Rattle.grammar.specs.Grammar.{processors_written}
use Rattle.grammar.specs.Lines.{words_written}
use Rattle.grammar.specs.Sheets.{read_refusal, write_answer}
use Rattle.report.specs.Lines.{result_length, result_bytes, refusal_line, result_head, result_line}

-- The result sheet of a sheet: marks and words are worked out by the refinement, at once.
unfoldable pub result_of : Sheet → ℕ → ℕ → List ℕ
result_of s processors method = result_bytes s.rows (final_marks at_once s processors method) (handed at_once s processors method)

-- What writing it returns to a refusal and a sheet, and what it leaves in the lent bytes.
unfoldable pub write_result_of : Refusal → Sheet → Written
write_result_of refusal s = write_answer refusal (result_length s.rows)

unfoldable pub result_space_of : Refusal → Sheet → ℕ → ℕ → List ℕ → List ℕ
result_space_of refusal s processors method out = at_front refusal.number (result_of s processors method) out

-- The same of rows, in whatever layout they are lent; the checks are those of a refinement whose answer needs 7 + 11n bytes.
abbrev pub result_refusal_in : Lent → ℕ → ℕ → ℕ → Refusal
result_refusal_in lent processors method room =
    refine_refusal_of lent.broken lent.sheet processors method room (result_length lent.sheet.rows)

abbrev pub write_result_in : Lent → ℕ → ℕ → ℕ → Written
write_result_in lent processors method room = write_result_of (result_refusal_in lent processors method room) lent.sheet

abbrev pub result_after_in : Lent → ℕ → ℕ → List ℕ → List ℕ
result_after_in lent processors method out =
    result_space_of (result_refusal_in lent processors method (length out)) lent.sheet processors method out

-- The same of rows in a word list.
abbrev pub write_result : List ℕ → ℕ → ℕ → ℕ → Written
write_result words processors method room = write_result_in (in_triples words) processors method room

abbrev pub result_after : List ℕ → ℕ → ℕ → List ℕ → List ℕ
result_after words processors method out = result_after_in (in_triples words) processors method out

-- What writing it was given where it is not refused: what every question is given, and room for the sheet.
abbrev pub Reportable : Bool → Sheet → ℕ → ℕ → ℕ → Type 0
Reportable broken s processors method room = Refinable broken s processors method room (result_length s.rows)

-- What a result sheet says, read back by its digits: accepted, the row count, and each row's mark and word.
pub record SaysBack (s : Sheet) (ask : Ask) (R words bytes : List ℕ) : Type 0 where
  pub accepted_back : number bytes 2 2 ≡ bit (accepted s ask R)
  pub count_back : number bytes 4 2 ≡ s.rows
  pub mark_back : (k : ℕ) → k < s.rows → number bytes (result_head + k * result_line + 2) 2 ≡ bit (marked ask R k)
  pub bound_back : (k : ℕ) → k < s.rows → number bytes (result_head + k * result_line + 4) 6 ≡ get_or words k 0

-- The words that the largest allowed sheet has: 64 rows of three.
unfoldable pub most_words : ℕ
most_words = 192

-- The answer to a sheet's bytes: where the sheet is refused the one line that says so, else the RTA result sheet of the at-once engine.
unfoldable pub answer_text : List ℕ → List ℕ
answer_text bytes =
    let refusal = read_refusal bytes most_words in
    unless_refused refusal.number (refusal_line refusal.number refusal.place)
    (result_of (sheet_of (words_written bytes)) (processors_written bytes) 1)

-- Writing an answer refuses in one case only, 7: the output space is shorter than the answer.
unfoldable pub answer_refusal : List ℕ → ℕ → Refusal
answer_refusal bytes room = refused (room_refusal room (length (answer_text bytes))) 0

unfoldable pub answer_sheet : List ℕ → ℕ → Written
answer_sheet bytes room = write_answer (answer_refusal bytes room) (length (answer_text bytes))

unfoldable pub answer_after : List ℕ → List ℕ → List ℕ
answer_after bytes out = at_front (answer_refusal bytes (length out)).number (answer_text bytes) out
