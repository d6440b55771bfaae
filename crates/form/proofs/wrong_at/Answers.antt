-- Whether an offset is wrong: each test of the code is the definition's, with the announced length worked out before.
use mathlib.Core.Path.{◌≡◌, sym, ◌∙◌, ap}
use mathlib.Core.Bool.{not}
use lib.Dec.{ltb}
use native.Mathlib.Omega.{arith}
use Rattle.grammar.specs.Grammar.{head, line, sheet_length, rows_written}
use Rattle.grammar.proofs.Grammar.{sheet_head, sheet_row, sheet_past, wrong_byte, wrong_end}
use Rattle.form.proofs.wrong_at.Goals as goal

pub returns-then-bytes-offset : goal.returns-then-bytes-offset
returns-then-bytes-offset c =
    let p = c.args in
    ap (ltb p.offset) c.requires ∙ sym (wrong_end p.bytes.now p.offset c.if-bytes-offset.true)

pub returns-then-offset-lt-HEAD : goal.returns-then-offset-lt-HEAD
unfolding head
returns-then-offset-lt-HEAD c =
    let p = c.args in
    ap not (c.line_allows.ensures ∙ sym (sheet_head (rows_written p.bytes.now) p.offset _ (omega arith)))
    ∙ sym (wrong_byte p.bytes.now p.offset (omega arith))

pub returns-then-offset-full : goal.returns-then-offset-full
unfolding head line
returns-then-offset-full c =
    let p = c.args in
    let pre : p.full ≡ sheet_length (rows_written p.bytes.now) = c.requires in
    ap not (c.line_allows-then-offset-full.ensures ∙ sym (sheet_row (rows_written p.bytes.now) p.offset _ (omega arith) (omega arith)))
    ∙ sym (wrong_byte p.bytes.now p.offset (omega arith))

pub returns : goal.returns
unfolding head
returns c =
    let p = c.args in
    let pre : p.full ≡ sheet_length (rows_written p.bytes.now) = c.requires in
    ap not (sym (sheet_past (rows_written p.bytes.now) p.offset _ (omega arith) (omega arith)))
    ∙ sym (wrong_byte p.bytes.now p.offset (omega arith))
