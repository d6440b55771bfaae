-- The rows' words, one after the other: what stands in front is what the definition lists so far.
use native.Mathlib.Omega.{arith}
use Rattle.laws.proofs.Fill.{listed-none, listed_more}
use Rattle.grammar.specs.Grammar.{head, line}
use Rattle.grammar.specs.Lines.{word_offset, word_written}
use Rattle.sheet.proofs.reader.read_rows.Goals as goal

pub loop-word-init : goal.loop-word-init
loop-word-init c = listed-none _ _

pub loop-word-preserved : goal.loop-word-preserved
unfolding word_written word_offset head line
loop-word-preserved c =
    let p = c.args in
    let q = c.loop-word in
    listed_more (word_written p.bytes.now) q.word p.words.now q.words _ (omega arith) q.invariant c.six_digits.ensures
