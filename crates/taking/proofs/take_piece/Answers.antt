-- Behind a wrong byte nothing is taken; else line one has what it takes, and the rows have the rest.
use native.Mathlib.Omega.{arith}
use Rattle.grammar.specs.Grammar.{head}
use Rattle.pieces.proofs.Steps.{stuck}
use Rattle.pieces.proofs.LineOne.{first_wrong, first_all}
use Rattle.taking.proofs.take_piece.Goals as goal

pub returns-then-start-ne0 : goal.returns-then-start-ne0
returns-then-start-ne0 c answer =
    let p = c.args in
    stuck p.start p.words.now answer p.bytes.now c.if-start-ne0.true

pub returns-then-reached-ne0 : goal.returns-then-reached-ne0
returns-then-reached-ne0 c = first_wrong _ _ _ _ c.take_first-reached.ensures c.if-reached-ne0.true

pub returns-then-reached-lt-HEAD : goal.returns-then-reached-lt-HEAD
unfolding head
returns-then-reached-lt-HEAD c = first_all _ _ _ _ c.take_first-reached.ensures c.if-reached-ne0.false c.if-reached-lt-HEAD.true

pub take_rows-requires : goal.take_rows-requires
unfolding head
take_rows-requires c = (omega arith, omega arith)
