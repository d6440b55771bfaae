-- `capped_share` is BCL's term: the sizes of both rows give what the share asks, and the window and the cap are the row's own.
use Rattle.model.proofs.Sheet.{row_sized}
use Rattle.model.specs.Interference.{share_of, bcl_term}
use native.Mathlib.Omega.{arith}
use Rattle.interference.proofs.capped_share.Goals as goal

pub share_in_window-share-requires : goal.share_in_window-share-requires
share_in_window-share-requires c =
    let sized = row_sized _ c.args.given.now.ready.rows c.args.other c.requires.1 in
    let own = row_sized _ c.args.given.now.ready.rows c.args.row c.requires.0 in
    omega (arith, c.requires.2.by_deadline)

pub returns : goal.returns
unfolding bcl_term share_of
returns c = cc
