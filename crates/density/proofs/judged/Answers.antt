-- `judged` is refused as the checks say, or answered on an allowed sheet.
use mathlib.Core.Path.{◌≡◌, sym, ◌∙◌, ap}
use mathlib.Core.List.{[], ◌∷◌}
use Rattle.refusals.specs.Refusals.{Refusal, not_refused}
use Rattle.columns.specs.Rows.{sheet_in, lent}
use Rattle.rows.specs.Checks.{processors_refusal, first_held}
use Rattle.rows.proofs.Fold.{held_none}
use Rattle.rows.proofs.InOrder.{ended, passed, held_here, by_own, by_sizes}
use Rattle.columns.proofs.Shaped.{columns_shaped}
use Rattle.quick_look.specs.declared.Reply.{Reply}
use Rattle.quick_look.specs.DensityTest.{density_refusal_of}
use Rattle.quick_look.specs.Told.{reply_said}
use Rattle.quick_look.proofs.Checked.{checked}
use Rattle.quick_look.proofs.Promised.{made, density_worked}
use Rattle.quick_look.proofs.Told.{reply_refused}
use Rattle.density.proofs.judged.Goals as goal
use Rattle.density.proofs.judged.Goals.{In_ok-check_processors, In_ok-checked}

own-passed : (c : In_ok-check_processors) → first_held (processors_refusal c.args.processors ∷ []) ≡ 0
own-passed c = held_none _ (passed _ c.in_ok-check_processors.ensures, tt)

pub returns-in_err-check_processors : goal.returns-in_err-check_processors
unfolding density_refusal_of
returns-in_err-check_processors c =
    ap reply_said (ended _ _ c.from_residual.ensures.1)
    ∙ reply_refused _ _ (by_own (lent c.args.rows.now) _ _ (columns_shaped c.args.rows.now) (held_here _ _ _ c.in_err-check_processors.ensures)) _ _

pub returns-in_err-checked : goal.returns-in_err-checked
unfolding density_refusal_of
returns-in_err-checked c =
    let at = goal.at.returns-in_err-checked c in
    ap reply_said (ended _ _ c.from_residual-in_err-checked.ensures.1)
    ∙ reply_refused _ _
    (by_sizes (lent c.args.rows.now) _ _ (columns_shaped c.args.rows.now) (own-passed at.In_ok-check_processors) c.in_err-checked.ensures.0)
    _ _

-- Past the checks the number is 0, so none of them held.
zero : (c : In_ok-checked) → (density_refusal_of (lent c.args.rows.now).broken (sheet_in c.args.rows.now) c.args.processors).number ≡ 0
unfolding density_refusal_of
zero c =
    sym
    (ap (λ (r : Refusal). r.number)
    (by_sizes (lent c.args.rows.now) _ not_refused (columns_shaped c.args.rows.now) (own-passed (goal.at.In_ok-checked c).In_ok-check_processors) c.in_ok-checked.ensures.0))

pub reply-requires : goal.reply-requires
reply-requires c =
    let known = checked _ _ _ (zero (goal.at.reply-requires c).In_ok-checked) in (known.some_processor, known.few)

pub returns : goal.returns
returns c = ap (λ (r : Reply). made 0 0 r) (rw c.in_ok-checked.ensures.1 at c.reply.ensures) ∙ sym (density_worked _ _ _ (zero (goal.at.returns c).In_ok-checked))
