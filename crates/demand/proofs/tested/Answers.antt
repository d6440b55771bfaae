-- `tested` is refused as the checks say, or worked out on an allowed sheet, the busy length first.
use mathlib.Core.Path.{◌≡◌, sym, ◌∙◌, ap}
use mathlib.Core.List.{[], ◌∷◌}
use Rattle.refusals.specs.Refusals.{Refusal, not_refused}
use Rattle.columns.specs.Rows.{sheet_in, lent}
use Rattle.rows.specs.Checks.{first_held}
use Rattle.rows.proofs.Fold.{held_none}
use Rattle.rows.proofs.InOrder.{ended, passed, held_here, by_own, by_sizes}
use Rattle.columns.proofs.Shaped.{columns_shaped}
use Rattle.verdict.specs.declared.Outcome.{Outcome}
use Rattle.verdict.specs.OneProcessor.{Answer, horizon_refusal, one_processor_refusal_of, answered, Testable}
use Rattle.verdict.specs.Told.{outcome_said}
use Rattle.verdict.proofs.Checked.{checked}
use Rattle.verdict.proofs.Promised.{answer_worked}
use Rattle.verdict.proofs.Told.{outcome_refused}
use Rattle.demand.proofs.tested.Goals as goal
use Rattle.demand.proofs.tested.Goals.{In_ok-check_horizon, In_ok-checked}

own-passed : (c : In_ok-check_horizon) → first_held (horizon_refusal c.args.horizon ∷ []) ≡ 0
own-passed c = held_none _ (passed _ c.in_ok-check_horizon.ensures, tt)

pub returns-in_err-check_horizon : goal.returns-in_err-check_horizon
unfolding one_processor_refusal_of
returns-in_err-check_horizon c =
    ap outcome_said (ended _ _ c.from_residual.ensures.1)
    ∙ outcome_refused _ _ (by_own (lent c.args.rows.now) _ _ (columns_shaped c.args.rows.now) (held_here _ _ _ c.in_err-check_horizon.ensures)) _ _

pub returns-in_err-checked : goal.returns-in_err-checked
unfolding one_processor_refusal_of
returns-in_err-checked c =
    let at = goal.at.returns-in_err-checked c in
    ap outcome_said (ended _ _ c.from_residual-in_err-checked.ensures.1)
    ∙ outcome_refused _ _
    (by_sizes (lent c.args.rows.now) _ _ (columns_shaped c.args.rows.now) (own-passed at.In_ok-check_horizon) c.in_err-checked.ensures.0)
    _ _

-- Past the checks the number is 0, so none of them held, and the sheet is what the work below is given.
zero : (c : In_ok-checked) → (one_processor_refusal_of (lent c.args.rows.now).broken (sheet_in c.args.rows.now) c.args.horizon).number ≡ 0
unfolding one_processor_refusal_of
zero c =
    sym
    (ap (λ (r : Refusal). r.number)
    (by_sizes (lent c.args.rows.now) _ not_refused (columns_shaped c.args.rows.now) (own-passed (goal.at.In_ok-checked c).In_ok-check_horizon) c.in_ok-checked.ensures.0))

facts : (c : In_ok-checked) → Testable (lent c.args.rows.now).broken (sheet_in c.args.rows.now) c.args.horizon
facts c = checked _ _ _ (zero c)

pub busy_length-busy-requires : goal.busy_length-busy-requires
busy_length-busy-requires c = (facts (goal.at.busy_length-busy-requires c).In_ok-checked).within

pub outcome_within-requires-clause-allowed : goal.outcome_within-requires-clause-allowed
outcome_within-requires-clause-allowed c = let known = facts (goal.at.outcome_within-requires-clause-allowed c).In_ok-checked in (known.from_one, known.within)

pub returns : goal.returns
unfolding answered
returns c =
    ap (λ (o : Outcome). let worked : Answer = record { refusal = 0; place = 0; outcome = o } in worked) (rw c.in_ok-checked.ensures.1 at c.outcome_within.ensures)
    ∙ sym (answer_worked _ _ _ (zero (goal.at.returns c).In_ok-checked))
