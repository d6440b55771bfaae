-- The longest sheet announces 255 rows and has 5,362 bytes.
use Rattle.std.proofs.Common.{refl, arith}
use Rattle.grammar.specs.Grammar.{head, line, sheet_length}
use Rattle.terminal.proofs.input_room.Goals as goal

pub returns : goal.returns
unfolding sheet_length head line
returns c = (refl, omega arith)
