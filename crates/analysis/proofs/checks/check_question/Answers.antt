-- `check_question` makes its checks in number order; behind them all that is asked for is allowed.
use mathlib.Core.Path.{◌≡◌, refl, sym, ◌∙◌, ap}
use mathlib.Core.List.{[], ◌∷◌}
use Rattle.refusals.specs.Told.{said}
use Rattle.columns.specs.Rows.{sheet_in, lent}
use Rattle.refusals.specs.Refusals.{Refusal, not_refused}
use Rattle.rows.specs.Checks.{processors_refusal, method_refusal, first_held, laid_refusal}
use Rattle.rows.proofs.Fold.{held_none}
use Rattle.rows.proofs.InOrder.{ended, passed, numbered, held_here, held_later, by_own, by_sizes}
use Rattle.columns.proofs.Shaped.{columns_shaped}
use Rattle.refinement.specs.Question.{one_row_refusal_of, Askable}
use Rattle.refinement.proofs.Question.{asked, refused_first, passed_first}
use Rattle.analysis.proofs.checks.check_question.Goals as goal
use Rattle.analysis.proofs.checks.check_question.Goals.{In_ok-check_processors, In_ok-method, In_ok-check_sizes, Else-not-question_allowed}

some-processors : (c : In_ok-check_processors) → processors_refusal c.args.processors ≡ 0
some-processors c = passed _ c.in_ok-check_processors.ensures

named : (c : In_ok-method) → method_refusal c.args.method ≡ 0
named c = passed _ c.in_ok-method.ensures.0

own-passed : (c : In_ok-method) → first_held (processors_refusal c.args.processors ∷ method_refusal c.args.method ∷ []) ≡ 0
own-passed c = held_none _ (some-processors (goal.at.In_ok-method c).In_ok-check_processors, (named c, tt))

-- The checks before 9 passed.
first : (c : In_ok-check_sizes) → not_refused
    ≡ laid_refusal (lent c.args.rows.now).broken (sheet_in c.args.rows.now) (first_held (processors_refusal c.args.processors ∷ method_refusal c.args.method ∷ []))
first c =
    by_sizes (lent c.args.rows.now) _ _ (columns_shaped c.args.rows.now) (own-passed (goal.at.In_ok-check_sizes c).In_ok-method) c.in_ok-check_sizes.ensures

pub returns-in_err-check_processors-clause-refused : goal.returns-in_err-check_processors-clause-refused
returns-in_err-check_processors-clause-refused c =
    ap said (ended _ _ c.from_residual.ensures.1)
    ∙ refused_first _ _ _ _ _ _ _ (by_own (lent c.args.rows.now) _ _ (columns_shaped c.args.rows.now) (held_here _ _ _ c.in_err-check_processors.ensures)) (numbered _)

pub returns-in_err-method-clause-refused : goal.returns-in_err-method-clause-refused
returns-in_err-method-clause-refused c =
    let at = goal.at.returns-in_err-method-clause-refused c in
    ap said (ended _ _ c.from_residual-in_err-method.ensures.1)
    ∙ refused_first _ _ _ _ _ _ _
    (by_own (lent c.args.rows.now) _ _ (columns_shaped c.args.rows.now)
    (held_later _ _ _ (some-processors at.In_ok-check_processors) (held_here _ _ _ c.in_err-method.ensures.0)))
    (numbered _)

pub returns-in_err-check_sizes-clause-refused : goal.returns-in_err-check_sizes-clause-refused
returns-in_err-check_sizes-clause-refused c =
    let at = goal.at.returns-in_err-check_sizes-clause-refused c in
    ap said (ended _ _ c.from_residual-in_err-check_sizes.ensures.1)
    ∙ refused_first _ _ _ _ _ _ _
    (by_sizes (lent c.args.rows.now) _ _ (columns_shaped c.args.rows.now) (own-passed at.In_ok-method) c.in_err-check_sizes.ensures)
    (numbered _)

pub returns-then-not-question_allowed-clause-refused : goal.returns-then-not-question_allowed-clause-refused
returns-then-not-question_allowed-clause-refused c =
    passed_first _ _ _ _ _ _ _ (first (goal.at.returns-then-not-question_allowed-clause-refused c).In_ok-check_sizes) refl _
    (sym c.question_allowed.ensures ∙ c.if-not-question_allowed.true)

-- Past the last check there is no refusal, which says all that is asked for.
unrefused : (c : Else-not-question_allowed)
    → not_refused ≡ one_row_refusal_of (lent c.args.rows.now).broken (sheet_in c.args.rows.now) c.args.processors c.args.method c.args.bounds.now c.args.row
unrefused c =
    passed_first _ _ _ _ _ _ _ (first (goal.at.Else-not-question_allowed c).In_ok-check_sizes) refl _
    (sym c.question_allowed.ensures ∙ c.if-not-question_allowed.false)

facts : (c : Else-not-question_allowed) → Askable (lent c.args.rows.now).broken (sheet_in c.args.rows.now) c.args.processors c.args.method c.args.bounds.now c.args.row
facts c = asked _ _ _ _ _ _ (sym (ap (λ (r : Refusal). r.number) (unrefused c)))

pub invariant_of-asked : goal.invariant_of-asked
invariant_of-asked c =
    let posed = (facts (goal.at.invariant_of-asked c).Else-not-question_allowed).posed in
    record { allowed = posed.sizes; some_processor = posed.some_processor; few_processors = posed.few }

pub invariant_of-result : goal.invariant_of-result
invariant_of-result c = record { ready = (facts (goal.at.invariant_of-result c).Else-not-question_allowed).ready }

pub returns-clause-refused : goal.returns-clause-refused
returns-clause-refused c = unrefused (goal.at.returns-clause-refused c).Else-not-question_allowed
