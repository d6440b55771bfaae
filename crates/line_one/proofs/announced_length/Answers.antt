-- What two digits can say announces at most 5,362 bytes.
use native.Mathlib.Omega.{arith}
use Rattle.grammar.specs.Grammar.{sheet_length, head, line}
use Rattle.pieces.specs.Feeding.{announced}
use Rattle.line_one.proofs.announced_length.Goals as goal

pub sheet_length-requires : goal.sheet_length-requires
unfolding sheet_length head line
sheet_length-requires c = omega arith

pub returns : goal.returns
unfolding announced
returns c = c.sheet_length.ensures
