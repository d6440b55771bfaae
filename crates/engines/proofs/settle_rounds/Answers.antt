-- `settle_rounds` keeps what bounds on the way hold; each round that moves lowers their sum, and one that does not has reached the end.
use Rattle.model.proofs.Refine.{round_pass}
use Rattle.model.proofs.Engines.{round_settled}
use Rattle.refinement.specs.Refinement.{final_bounds, final_marks}
use Rattle.refinement.proofs.Steps.{asked_regular, pass_on, reached}
use Rattle.engines.proofs.settle_rounds.Goals as goal

pub returns-in-Some : goal.returns-in-Some
unfolding final_marks final_bounds
returns-in-Some c =
    let there = reached _ _ _ _ _ _ _ c.in-Some.ensures.told (round_settled _ _ (asked_regular c.args.asked.now) _ c.loop-seen.invariant.held) in
    record { seen = there.0; settled = there.1 }

pub loop-seen-preserved : goal.loop-seen-preserved
loop-seen-preserved c = pass_on _ _ _ _ _ _ _ (round_pass _ _ (asked_regular c.args.asked.now)) c.loop-seen.invariant c.round_rows.ensures.told.exact
