-- `settle_at_once` keeps what bounds on the way hold; each sweep that moves lowers their sum, and one that does not has reached the end.
use native.Mathlib.Nat.{lt_of_le_of_lt}
use native.Mathlib.Omega.{arith}
use Rattle.model.proofs.Refine.{sweep_pass}
use Rattle.model.proofs.Engines.{sweep_settled}
use Rattle.refinement.specs.Refinement.{final_bounds, final_marks}
use Rattle.refinement.specs.Asked.{Underway}
use Rattle.refinement.proofs.Steps.{asked_regular, pass_on, reached, sum_lower}
use Rattle.refinement.proofs.Descent.{descended_running}
use Rattle.engines.proofs.Start.{no_drop}
use Rattle.engines.proofs.settle_at_once.Goals as goal
use Rattle.engines.proofs.settle_at_once.Goals.{After-sweep_rows}

-- The bounds that a sweep leaves are on the way too.
swept : (c : After-sweep_rows) → Underway c.args.asked.now c.sweep_rows.new.bounds
swept c =
    pass_on _ _ _ _ _ _ _ (sweep_pass _ _ (asked_regular c.args.asked.now)) c.loop-seen.invariant.0
    c.sweep_rows.ensures.exact

pub returns-in-Some : goal.returns-in-Some
unfolding final_marks final_bounds
returns-in-Some c =
    let there = reached _ _ _ _ _ _ _ c.in-Some.ensures (sweep_settled _ _ (asked_regular c.args.asked.now) _ c.loop-seen.invariant.0.held) in
    record { seen = there.0; settled = there.1 }

pub invariant_of-drops : goal.invariant_of-drops
invariant_of-drops c = record { small = λ i. no_drop 64 i }

pub invariant_of-given : goal.invariant_of-given
invariant_of-given c = record { ready = (swept (goal.at.invariant_of-given c).After-sweep_rows).ready }

pub hasten-requires : goal.hasten-requires
hasten-requires c = swept (goal.at.hasten-requires c).After-sweep_rows

pub loop-seen-smaller : goal.loop-seen-smaller
loop-seen-smaller c = lt_of_le_of_lt (sum_lower _ _ _ c.hasten.ensures.below) c.in_default.ensures.outcome

pub loop-seen-preserved : goal.loop-seen-preserved
loop-seen-preserved c =
    (descended_running _ _ _ _ _ _ (swept (goal.at.loop-seen-preserved c).After-sweep_rows) c.hasten.ensures, omega arith)
