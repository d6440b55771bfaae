-- `answered` is refused as the checks say, or asks the row: past the checks every fact that asking needs is known.
use mathlib.Core.Path.{◌≡◌, sym, ◌∙◌, ap, ap₂}
use mathlib.Core.List.{List}
use Prim.Native.Nat.{ℕ}
use Rattle.model.specs.Refine.{Ask}
use Rattle.rows.specs.Words.{Found, found_of}
use Rattle.refusals.specs.Refusals.{Refusal}
use Rattle.columns.specs.Rows.{sheet_in, lent}
use Rattle.rows.proofs.InOrder.{ended, numbered}
use Rattle.refinement.specs.Question.{OneRow, one_row_refusal_of, Askable}
use Rattle.refinement.specs.Refinement.{ask_of}
use Rattle.refinement.specs.Told.{row_said}
use Rattle.refinement.proofs.Together.{asked_as}
use Rattle.refinement.proofs.Question.{asked, one_row_answered, one_row_refused}
use Rattle.analysis.proofs.question.answered.Goals as goal
use Rattle.analysis.proofs.question.answered.Goals.{In_ok-given}

pub returns-in_err-given : goal.returns-in_err-given
returns-in_err-given c =
    ap row_said (ended _ _ c.from_residual.ensures.1) ∙ sym (one_row_refused _ _ _ _ _ _ _ c.in_err-given.ensures.refused (numbered _))

passed : (c : In_ok-given)
    → (one_row_refusal_of (lent c.args.rows.now).broken (sheet_in c.args.rows.now) c.args.processors c.args.method c.args.bounds.now c.args.row).number ≡ 0
passed c = sym (ap (λ (r : Refusal). r.number) c.in_ok-given.ensures.refused)

facts : (c : In_ok-given) → Askable (lent c.args.rows.now).broken (sheet_in c.args.rows.now) c.args.processors c.args.method c.args.bounds.now c.args.row
facts c = asked _ _ _ _ _ _ (passed c)

pub answer_quickly-requires : goal.answer_quickly-requires
answer_quickly-requires c =
    let known = facts (goal.at.answer_quickly-requires c).In_ok-given in
    let so = c.in_ok-given.ensures.asked.0 in
    rw (asked_as (λ s m number. s) _ _ _ _ so) known.there

pub returns : goal.returns
unfolding ask_of
returns c =
    let so = c.in_ok-given.ensures.asked in
    let found = c.answer_quickly.ensures
    ∙ ap₂ (λ (ask : Ask) (bounds : List ℕ). found_of (ask c.args.row bounds)) (asked_as ask_of _ _ _ _ so.0) so.1 in
    ap (λ (answer : Found). let r : OneRow = record { refusal = 0; place = 0; answer = answer } in r) found
    ∙ sym (one_row_answered _ _ _ _ _ _ (passed (goal.at.returns c).In_ok-given))
