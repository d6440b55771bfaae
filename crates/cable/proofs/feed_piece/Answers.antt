-- Behind the end a piece finds the answer that was given; before it the piece is taken.
use Rattle.pieces.proofs.Entries.{feeding_after, feeding_on}
use Rattle.cable.proofs.feed_piece.Goals as goal

pub returns-then-state-ne0 : goal.returns-then-state-ne0
returns-then-state-ne0 c =
    let p = c.args in
    feeding_after p.state c.if-state-ne0.true p.bytes.now

pub returns : goal.returns
returns c =
    let taken = c.take_piece-reached in
    let p = c.args in
    feeding_on p.state c.if-state-ne0.false p.bytes.now taken.new.words taken.result taken.ensures
