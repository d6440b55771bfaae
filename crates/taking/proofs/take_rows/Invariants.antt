-- The loop of `take_rows`: what the loop has passed is taken.
use Rattle.pieces.proofs.RowLines.{Going}
use Rattle.taking.proofs.take_rows.Given as goal

abbrev pub invariant-loop-byte : goal.invariant-loop-byte
invariant-loop-byte l = Going l.start l.bytes l.initial.words l.words l.spot.taken l.byte-index
