-- The checks on processors and the words of rows: what a refusal, and none, says of the answer and of the lent space. Of the words that bytes
-- say they are the checks of reading.
use mathlib.Core.Path.{◌≡◌, refl, sym, ◌∙◌}
use mathlib.Core.List.{List}
use Prim.Native.Nat.{ℕ, ◌*◌, ◌<◌}
use native.Mathlib.Omega.{arith}
use lib.ListN.{length}
use Rattle.laws.specs.Fill.{at_front}
use Rattle.laws.proofs.Choice.{not-refused, is_refused}
use Rattle.laws.proofs.Fill.{front_left}
use Rattle.model.specs.Sheet.{triples}
use Rattle.refusals.specs.Refusals.{Refusal}
use Rattle.rows.specs.Words.{sheet_of}
use Rattle.refusals.specs.Refusals.{refused}
use Rattle.rows.proofs.Checks.{laid_words, count_refused}
use Rattle.grammar.specs.declared.Read.{Read}
use Rattle.grammar.specs.Grammar.{processors_written, rows_written}
use Rattle.grammar.specs.Lines.{words_written}
use Rattle.grammar.specs.Sheets.{formed_refusal, read_refused, read_answer}
use Rattle.grammar.proofs.Refusals.{words_length}
use Rattle.pieces.specs.Ending.{judged_refusal, found_answer}

-- What is found, refused or not.
pub found_refused : (refusal : Refusal) (processors rows : ℕ) → (refusal.number ≡ 0 → ⊥)
    → read_refused refusal.number refusal.place ≡ found_answer refusal processors rows
unfolding found_answer
found_refused refusal processors rows one_holds = sym (is_refused _ _ _ one_holds)

pub found_accepted : (refusal : Refusal) (processors rows : ℕ) → refusal.number ≡ 0
    → record { refusal = 0; place = 0; processors = processors; rows = rows } ≡ found_answer refusal processors rows
unfolding found_answer
found_accepted refusal processors rows none_holds = sym (not-refused _ _ _ none_holds)

-- A refusal: what it returns, and that it changes no word.
pub finding_refused : (refusal given : Refusal) (processors rows : ℕ) (read words : List ℕ) (r : Read)
    → r ≡ read_refused refusal.number refusal.place → refusal ≡ given → (refusal.number ≡ 0 → ⊥)
    → (r ≡ found_answer given processors rows) × (words ≡ at_front given.number read words)
finding_refused refusal given processors rows read words r returned same one_holds =
    rw (← same)
    (returned ∙ found_refused refusal processors rows one_holds, front_left refusal.number read words one_holds)

three_a_row : (words : List ℕ) (rows : ℕ) → length words ≡ 3 * rows → (sheet_of words).rows ≡ rows
unfolding sheet_of triples
three_a_row words rows size = rw size (omega arith)

-- More than 64 rows are refused whatever comes after.
pub judged_many : (processors : ℕ) (words : List ℕ) (rows room : ℕ) → length words ≡ 3 * rows → 64 < rows
    → judged_refusal processors words room ≡ refused 3 0
unfolding judged_refusal
judged_many processors words rows room size many =
    let count : (sheet_of words).rows ≡ rows = three_a_row words rows size in
    count_refused _ (sheet_of words) _ (laid_words words (record { whole = rw count size })) (rw count many)

-- The checks of reading, and what it returns, are these of what the bytes say.
pub formed_judged : (bytes : List ℕ) (room : ℕ) → formed_refusal bytes room ≡ judged_refusal (processors_written bytes) (words_written bytes) room
unfolding formed_refusal judged_refusal
formed_judged bytes room = rw (words_length bytes)

pub read_found : (refusal : Refusal) (bytes : List ℕ) → read_answer refusal bytes ≡ found_answer refusal (processors_written bytes) (rows_written bytes)
unfolding read_answer found_answer
read_found refusal bytes = refl
