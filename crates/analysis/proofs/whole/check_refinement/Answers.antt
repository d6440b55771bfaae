-- `check_refinement` makes its checks in number order; behind them all that is asked for is allowed.
use mathlib.Core.Path.{◌≡◌, sym, ◌∙◌, ap}
use mathlib.Core.List.{[], ◌∷◌}
use Rattle.refusals.specs.Told.{said}
use Rattle.columns.specs.Rows.{sheet_in, lent}
use Rattle.refusals.specs.Refusals.{Refusal, not_refused}
use Rattle.rows.specs.Checks.{processors_refusal, method_refusal, room_refusal, first_held}
use Rattle.rows.proofs.Fold.{held_none}
use Rattle.rows.proofs.InOrder.{ended, passed, held_here, held_later, by_own, by_sizes}
use Rattle.columns.proofs.Shaped.{columns_shaped}
use Rattle.refinement.specs.Refinement.{refine_refusal_of}
use Rattle.refinement.proofs.Refinement.{refining}
use Rattle.analysis.proofs.whole.check_refinement.Goals as goal
use Rattle.analysis.proofs.whole.check_refinement.Goals.{In_ok-check_processors, In_ok-method, In_ok-check_room, In_ok-check_sizes}

some-processors : (c : In_ok-check_processors) → processors_refusal c.args.processors ≡ 0
some-processors c = passed _ c.in_ok-check_processors.ensures

named : (c : In_ok-method) → method_refusal c.args.method ≡ 0
named c = passed _ c.in_ok-method.ensures.0

own-passed : (c : In_ok-check_room)
    → first_held (processors_refusal c.args.processors ∷ method_refusal c.args.method ∷ room_refusal c.args.room c.args.need ∷ []) ≡ 0
own-passed c =
    let at = goal.at.In_ok-check_room c in
    held_none _ (some-processors at.In_ok-check_processors, (named at.In_ok-method, (passed _ c.in_ok-check_room.ensures, tt)))

pub returns-in_err-check_processors-clause-refused : goal.returns-in_err-check_processors-clause-refused
unfolding refine_refusal_of
returns-in_err-check_processors-clause-refused c =
    ap said (ended _ _ c.from_residual.ensures.1)
    ∙ by_own (lent c.args.rows.now) _ _ (columns_shaped c.args.rows.now) (held_here _ _ _ c.in_err-check_processors.ensures)

pub returns-in_err-method-clause-refused : goal.returns-in_err-method-clause-refused
unfolding refine_refusal_of
returns-in_err-method-clause-refused c =
    let at = goal.at.returns-in_err-method-clause-refused c in
    ap said (ended _ _ c.from_residual-in_err-method.ensures.1)
    ∙ by_own (lent c.args.rows.now) _ _ (columns_shaped c.args.rows.now)
    (held_later _ _ _ (some-processors at.In_ok-check_processors) (held_here _ _ _ c.in_err-method.ensures.0))

pub returns-in_err-check_room-clause-refused : goal.returns-in_err-check_room-clause-refused
unfolding refine_refusal_of
returns-in_err-check_room-clause-refused c =
    let at = goal.at.returns-in_err-check_room-clause-refused c in
    ap said (ended _ _ c.from_residual-in_err-check_room.ensures.1)
    ∙ by_own (lent c.args.rows.now) _ _ (columns_shaped c.args.rows.now)
    (held_later _ _ _ (some-processors at.In_ok-check_processors)
    (held_later _ _ _ (named at.In_ok-method) (held_here _ _ _ c.in_err-check_room.ensures)))

pub returns-in_err-check_sizes-clause-refused : goal.returns-in_err-check_sizes-clause-refused
unfolding refine_refusal_of
returns-in_err-check_sizes-clause-refused c =
    let at = goal.at.returns-in_err-check_sizes-clause-refused c in
    ap said (ended _ _ c.from_residual-in_err-check_sizes.ensures.1)
    ∙ by_sizes (lent c.args.rows.now) _ _ (columns_shaped c.args.rows.now) (own-passed at.In_ok-check_room) c.in_err-check_sizes.ensures

-- Past the last check there is no refusal, which says all that is asked for.
unrefused : (c : In_ok-check_sizes)
    → not_refused ≡ refine_refusal_of (lent c.args.rows.now).broken (sheet_in c.args.rows.now) c.args.processors c.args.method c.args.room c.args.need
unfolding refine_refusal_of
unrefused c =
    by_sizes (lent c.args.rows.now) _ _ (columns_shaped c.args.rows.now) (own-passed (goal.at.In_ok-check_sizes c).In_ok-check_room) c.in_ok-check_sizes.ensures

pub invariant_of-result : goal.invariant_of-result
invariant_of-result c =
    let zero = sym (ap (λ (r : Refusal). r.number) (unrefused (goal.at.invariant_of-result c).In_ok-check_sizes)) in
    let posed = (refining _ _ _ _ _ _ zero).posed in
    record { allowed = posed.sizes; some_processor = posed.some_processor; few_processors = posed.few }

pub returns-clause-refused : goal.returns-clause-refused
returns-clause-refused c = unrefused (goal.at.returns-clause-refused c).In_ok-check_sizes
