-- The loop of `take_first`: what it has passed is taken.
use Rattle.pieces.proofs.LineOne.{Begun}
use Rattle.line_one.proofs.take_first.Given as goal

abbrev pub invariant-loop-byte : goal.invariant-loop-byte
invariant-loop-byte l = Begun l.initial.reached l.bytes l.reached l.byte-index
