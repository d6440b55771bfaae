-- `refined` is refused as the checks say, or lends the front of the words to the engine: the laws of both entries, at any engine.
use mathlib.Core.Path.{◌≡◌, refl, sym, ◌∙◌, ap}
use Prim.Native.Nat.{◌≤◌}
use lib.ListN.{length}
use lib.Seq.{length-take-le}
use Rattle.model.specs.Sheet.{columns}
use Rattle.refusals.specs.Refusals.{Refusal}
use Rattle.columns.specs.Rows.{sheet_in, lent}
use Rattle.rows.proofs.InOrder.{ended, numbered}
use Rattle.refinement.specs.Refinement.{refine_refusal_in, Refinable, final_bounds, final_marks}
use Rattle.refinement.specs.Told.{marks_said}
use Rattle.refinement.proofs.Together.{asked_as}
use Rattle.refinement.proofs.Refinement.{refining, refine_refused, refine_answered, handed_whole}
use Rattle.analysis.proofs.whole.refined.Given.{Over}
use Rattle.analysis.proofs.whole.refined.Goals as goal
use Rattle.analysis.proofs.whole.refined.Goals.{In_ok-asked}

pub returns-in_err-asked : goal.returns-in_err-asked
unfolding columns
returns-in_err-asked g c =
    let both = refine_refused g.E.Engine.ends _ _ _ _ _ _ c.in_err-asked.ensures.refused (numbered _) in
    record { answered = ap marks_said (ended _ _ c.from_residual.ensures.1) ∙ both.0; written = both.1 }

-- Past the checks every fact that the work needs is known.
passed : (g : Over) (c : In_ok-asked g)
    → (refine_refusal_in (lent c.args.rows.now) c.args.processors c.args.method (length c.args.bounds.now)).number ≡ 0
unfolding columns
passed g c = sym (ap (λ (r : Refusal). r.number) c.in_ok-asked.ensures.refused)

facts : (g : Over) (c : In_ok-asked g) → let lent = lent c.args.rows.now in
    Refinable lent.broken lent.sheet c.args.processors c.args.method (length c.args.bounds.now) lent.sheet.rows
facts g c = refining _ _ _ _ _ _ (passed g c)

enough : (g : Over) (c : In_ok-asked g) → length c.args.rows.now.costs.now ≤ length c.args.bounds.now
unfolding columns
enough g c = (facts g c).enough

counted : (g : Over) (c : In_ok-asked g) → length c.args.rows.now.costs.now ≡ (sheet_in c.args.rows.now).rows
unfolding columns
counted g c = refl

pub slice_bounds-run-end : goal.slice_bounds-run-end
slice_bounds-run-end g c = enough g (goal.at.slice_bounds-run-end g c).In_ok-asked

pub slice_bounds-run-end-2 : goal.slice_bounds-run-end-2
slice_bounds-run-end-2 g c = sym (length-take-le _ c.args.bounds.now (enough g (goal.at.slice_bounds-run-end-2 g c).In_ok-asked))

pub run-requires : goal.run-requires
run-requires g c =
    let at = (goal.at.run-requires g c).In_ok-asked in
    let so = c.in_ok-asked.ensures.asked in
    let same = asked_as (λ s m number. s) _ _ _ _ so in
    rw same (length-take-le _ c.args.bounds.now (enough g at) ∙ counted g at)

pub returns : goal.returns
unfolding columns
returns g c =
    let at = (goal.at.returns g c).In_ok-asked in
    let engine = g.E.Engine.ends in
    let so = c.in_ok-asked.ensures.asked in
    let settled = c.run.ensures.settled ∙ asked_as (final_bounds engine) _ _ _ _ so in
    let both =
    refine_answered engine _ _ _ _ _ (passed g at) _ _ _
    (c.run.ensures.seen ∙ asked_as (final_marks engine) _ _ _ _ so)
    (settled ∙ handed_whole _ _ _ _)
    (c.run.auto.bounds ∙ length-take-le _ c.args.bounds.now (enough g at)) in
    record { answered = both.0; written = both.1 }
