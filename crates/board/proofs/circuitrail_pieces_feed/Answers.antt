-- Of what a piece returns, the state.
use mathlib.Core.Path.{ap}
use Rattle.pieces.specs.declared.Fed.{Fed}
use Rattle.pieces.specs.Ending.{feeding}
use Rattle.board.proofs.circuitrail_pieces_feed.Goals as goal

pub returns : goal.returns
unfolding feeding
returns c = ap (λ (r : Fed). r.state) c.feed_piece-fed.ensures
