-- `fill_shares` stores each row's term behind those before it, until all are listed; then 0 where the row itself stands.
use native.Mathlib.Omega.{arith}
use mathlib.Core.Path.{◌≡◌, ◌∙◌, ap}
use mathlib.Core.List.{List}
use Prim.Native.Nat.{ℕ}
use lib.ListN.{set}
use Rattle.refinement.specs.Asked.{sheet}
use Rattle.model.proofs.Sheet.{row_sized}
use Rattle.laws.specs.Fill.{listed}
use Rattle.laws.proofs.Fill.{listed-none, listed_more, listed_all, listed-unless}
use Rattle.refinement.specs.Inner.{shares}
use Rattle.interference.proofs.fill_shares.Goals as goal

pub overflow_add-cap : goal.overflow_add-cap
overflow_add-cap c = let sized = row_sized _ c.args.given.now.ready.rows c.args.row c.requires.0 in omega (arith, c.deadline-window.ensures)

pub loop-other-init : goal.loop-other-init
loop-other-init c = listed-none _ _

pub loop-other-preserved : goal.loop-other-preserved
loop-other-preserved c =
    let q = c.loop-other in
    listed_more _ q.other c.args.out.now q.out c.capped_share.result (omega (arith, c.requires.1, c.count-other-end.ensures)) q.invariant c.capped_share.ensures

pub returns : goal.returns
unfolding shares
returns c =
    let q = c.loop-other in
    let done : q.other ≡ (sheet c.args.given.now.asked).rows = omega (arith, c.count-other-end.ensures) in
    ap (λ (l : List ℕ). set l c.args.row 0) (listed_all _ q.other c.args.out.now q.out (omega (arith, c.requires.1)) q.invariant ∙ ap (listed _) done)
    ∙ listed-unless _ _ c.args.row (omega (arith, c.requires.0))
