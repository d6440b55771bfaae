-- The rows are judged in the words that were read, and these are the sheet's.
use Prim.Native.Nat.{ℕ}
use mathlib.Core.Path.{◌≡◌, refl, sym, ◌∙◌, ap, ap₂}
use mathlib.Core.List.{List}
use lib.ListN.{length}
use Rattle.laws.specs.Fill.{listed, at_front}
use Rattle.refusals.specs.Refusals.{Refusal}
use Rattle.rows.specs.Checks.{words_refusal}
use Rattle.rows.proofs.InOrder.{ended, numbered}
use Rattle.grammar.specs.Lines.{word_written, words_written}
use Rattle.grammar.specs.Sheets.{between_refusal, formed_refusal}
use Rattle.grammar.specs.Told.{read_said}
use Rattle.grammar.proofs.Refusals.{read_accepted, reading_refused, judged_words}
use Rattle.sheet.proofs.reader.judge.Goals as goal
use Rattle.sheet.proofs.reader.judge.Goals.{After-read_rows, After-hand_over}

-- The words that were read are those of the sheet.
read : (c : After-read_rows) → c.read_rows.new.words ≡ words_written c.args.bytes.now
unfolding words_written
read c = c.read_rows.ensures ∙ ap (listed (word_written c.args.bytes.now)) c.requires.1

-- So the checks on them are the sheet's.
checks : (c : After-read_rows)
    → let written = c.read_rows.new.words in
    let room = length c.args.words.now in
    words_refusal written (between_refusal c.args.header.processors room (length written)) ≡ formed_refusal c.args.bytes.now room
checks c = judged_words c.args.bytes.now _ c.args.header.processors _ _ (read c) c.requires.0.processors refl

-- And what is handed over is what the sheet's words leave.
left : (c : After-hand_over) → c.hand_over.new.words ≡ at_front (formed_refusal c.args.bytes.now (length c.args.words.now)).number (words_written c.args.bytes.now) c.args.words.now
left c =
    let at = (goal.at.After-hand_over c).After-read_rows in
    c.hand_over.ensures.words_left
    ∙ ap₂ (λ (r : Refusal) (front : List ℕ). at_front r.number front c.args.words.now) (checks at) (read at)

pub returns-in_err-hand_over : goal.returns-in_err-hand_over
returns-in_err-hand_over c =
    let both = reading_refused _ _ c.args.bytes.now c.args.words.now _ (ap read_said (ended _ _ c.from_residual.ensures.1))
    (c.in_err-hand_over.ensures.value ∙ checks (goal.at.returns-in_err-hand_over c).After-read_rows) (numbered _) in
    record { value = both.0; words_left = left (goal.at.returns-in_err-hand_over c).After-hand_over }

pub returns : goal.returns
returns c =
    let at = goal.at.returns c in
    let passed = sym (ap (λ (r : Refusal). r.number) (c.in_ok-hand_over.ensures.value ∙ checks at.After-read_rows)) in
    record {
      value = ap₂ (λ (processors rows : ℕ). record { refusal = 0; place = 0; processors = processors; rows = rows }) c.requires.0.processors c.requires.0.rows
          ∙ read_accepted _ c.args.bytes.now passed;
      words_left = left at.After-hand_over;
    }
