-- Of what the end returns, the state.
use mathlib.Core.Path.{ap}
use Rattle.pieces.specs.declared.Ended.{Ended}
use Rattle.pieces.specs.Ending.{ending}
use Rattle.board.proofs.circuitrail_pieces_end.Goals as goal

pub returns-clause-answered : goal.returns-clause-answered
unfolding ending
returns-clause-answered c = ap (λ (r : Ended). r.state) c.end_sheet-ended.ensures.value
