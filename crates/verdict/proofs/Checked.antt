-- With number 0 the layout is not broken, and sheet and horizon are allowed, and the other way round.
use mathlib.Core.Path.{◌≡◌}
use mathlib.Core.Bool.{Bool}
use Prim.Native.Nat.{ℕ, ◌≤◌}
use native.Mathlib.Omega.{arith}
use Rattle.laws.proofs.Choice.{pick_yes}
use Rattle.model.specs.Sheet.{Sheet, horizon_allowed}
use Rattle.model.proofs.Sheet.{allowed_horizon, horizon_allowed_lem}
use Rattle.refusals.specs.Refusals.{not_refused}
use Rattle.rows.proofs.Fold.{none_held, held_none}
use Rattle.rows.proofs.Checks.{allowed_by_zero, accepted, accepted-passes}
use Rattle.verdict.specs.OneProcessor.{horizon_refusal, one_processor_refusal_of, Testable}

-- Number 0 gives every fact.
pub checked : (broken : Bool) (s : Sheet) (h : ℕ) → (one_processor_refusal_of broken s h).number ≡ 0 → Testable broken s h
unfolding one_processor_refusal_of horizon_refusal
checked broken s h zero =
    let facts = accepted broken s _ zero in
    let range : (1 ≤ h) × (h ≤ 16_777_216) =
    allowed_horizon h (allowed_by_zero (horizon_allowed h) 6 (λ six. omega arith) (none_held _ facts.none_held).0) in
    record { laid = facts.laid; sizes = facts.sizes; from_one = range.0; within = range.1 }

-- The facts give number 0 and place 0.
pub checked_passes : (broken : Bool) (s : Sheet) (h : ℕ) → Testable broken s h → one_processor_refusal_of broken s h ≡ not_refused
unfolding one_processor_refusal_of horizon_refusal
checked_passes broken s h facts =
    accepted-passes broken s _
    (record {
      laid = facts.laid;
      sizes = facts.sizes;
      none_held = held_none _ (pick_yes _ _ _ (horizon_allowed_lem h facts.from_one facts.within), tt);
    })
