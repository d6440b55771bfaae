-- A second end finds the answer that was given; the first judges what was read, and keeps its answer.
use mathlib.Core.Path.{◌∙◌}
use Rattle.pieces.proofs.Entries.{ending_after, ending_on}
use Rattle.cable.proofs.end_sheet.Goals as goal

pub returns-then-state-ne0 : goal.returns-then-state-ne0
returns-then-state-ne0 c =
    let p = c.args in
    let both = ending_after p.state c.if-state-ne0.true p.words.now in record { value = both.0; words_left = both.1 }

pub returns : goal.returns
returns c =
    let end = c.finish in
    let p = c.args in
    let both = ending_on p.state c.if-state-ne0.false p.words.now end.new.words _ (c.from-answer.ensures ∙ end.ensures.value, end.ensures.words_left) in record { value = both.0; words_left = both.1 }
