-- `written` makes its checks first; a result that passes them has room, and is written into exactly its part of the output.
use mathlib.Core.Path.{◌≡◌, refl, sym, ◌∙◌, ap, ap₂}
use mathlib.Core.List.{List, ◌++◌}
use Prim.Native.Nat.{ℕ, ◌+◌, ◌*◌, ◌≤◌}
use lib.ListN.{length, drop}
use lib.Seq.{length-take-le}
use Rattle.laws.specs.Fill.{at_front}
use Rattle.laws.proofs.Fill.{front_left, front_put}
use Rattle.model.specs.Sheet.{columns}
use Rattle.refusals.specs.Refusals.{Refusal}
use Rattle.refusals.specs.Told.{told}
use Rattle.columns.specs.Rows.{sheet_in, lent}
use Rattle.rows.proofs.InOrder.{ended, numbered}
use Rattle.refinement.proofs.Refinement.{refining}
use Rattle.refinement.proofs.Together.{asked_as}
use Rattle.grammar.specs.declared.Written.{Written}
use Rattle.grammar.specs.Sheets.{write_answer}
use Rattle.grammar.specs.Told.{written_said}
use Rattle.grammar.proofs.Refusals.{write_refused, write_accepted}
use Rattle.report.specs.Lines.{result_head, result_line, result_length}
use Rattle.report.specs.Result.{result_of, result_refusal_in, write_result_of, result_space_of, Reportable}
use Rattle.report.proofs.Entries.{result_of_length}
use Rattle.result.proofs.rows_refined.written.Goals as goal
use Rattle.result.proofs.rows_refined.written.Goals.{Start, In_ok-asked, In_err-asked}

-- The result's length.
size : (c : Start) → 7 + 11 * length c.args.rows.now.costs.now ≡ result_length (sheet_in c.args.rows.now).rows
unfolding result_length result_head result_line columns
size c = refl

-- The checks were those of a result sheet.
refused-so : (c : In_err-asked) → let a = c.args in told c.in_err-asked.field-0.0 ≡ result_refusal_in (lent a.rows.now) a.processors a.method (length a.out.now)
refused-so c = rw (← size (goal.at.In_err-asked c).Start) c.in_err-asked.ensures.refused

pub returns-in_err-asked : goal.returns-in_err-asked
unfolding write_result_of result_space_of
returns-in_err-asked c =
    let a = c.args in
    let same = refused-so (goal.at.returns-in_err-asked c).In_err-asked in
    let why = told c.in_err-asked.field-0.0 in
    let size = result_length (sheet_in a.rows.now).rows in
    let text = result_of (sheet_in a.rows.now) a.processors a.method in
    record {
      value = ap written_said (ended _ _ c.from_residual.ensures.1) ∙ write_refused why size (numbered _) ∙ ap (λ (f : Refusal). write_answer f size) same;
      out_after = front_left why.number text a.out.now (numbered _) ∙ ap (λ (f : Refusal). at_front f.number text a.out.now) same;
    }

-- Past the checks there is no refusal, which says all that the work needs.
passed : (c : In_ok-asked) → let a = c.args in (result_refusal_in (lent a.rows.now) a.processors a.method (length a.out.now)).number ≡ 0
passed c = rw (← size (goal.at.In_ok-asked c).Start) (sym (ap (λ (r : Refusal). r.number) c.in_ok-asked.ensures.refused))

facts : (c : In_ok-asked) → let a = c.args in Reportable (lent a.rows.now).broken (sheet_in a.rows.now) a.processors a.method (length a.out.now)
facts c = refining _ _ _ _ _ _ (passed c)

enough : (c : In_ok-asked) → 7 + 11 * length c.args.rows.now.costs.now ≤ length c.args.out.now
enough c = rw (size (goal.at.In_ok-asked c).Start) (facts c).enough

pub slice_bounds-put_refined-end : goal.slice_bounds-put_refined-end
slice_bounds-put_refined-end c = enough (goal.at.slice_bounds-put_refined-end c).In_ok-asked

pub slice_bounds-put_refined-end-2 : goal.slice_bounds-put_refined-end-2
slice_bounds-put_refined-end-2 c = sym (length-take-le _ c.args.out.now (enough (goal.at.slice_bounds-put_refined-end-2 c).In_ok-asked))

pub put_refined-requires : goal.put_refined-requires
put_refined-requires c =
    let at = goal.at.put_refined-requires c in
    rw (asked_as (λ s m number. s) _ _ _ _ c.in_ok-asked.ensures.asked) (length-take-le _ c.args.out.now (enough at.In_ok-asked) ∙ size at.Start)

pub returns : goal.returns
unfolding write_result_of result_space_of
returns c =
    let a = c.args in
    let at = goal.at.returns c in
    let text = result_of (sheet_in a.rows.now) a.processors a.method in
    let none-holds = passed at.In_ok-asked in
    let put = c.put_refined.ensures ∙ asked_as result_of _ _ _ _ c.in_ok-asked.ensures.asked in
    record {
      value = ap (λ (n : ℕ). let w : Written = record { refusal = 0; place = 0; length = n } in w) (size at.Start)
          ∙ write_accepted (result_refusal_in (lent a.rows.now) a.processors a.method (length a.out.now)) (result_length (sheet_in a.rows.now).rows) none-holds;
      out_after = ap₂ (λ (l : List ℕ) (n : ℕ). l ++ drop n a.out.now) put (size at.Start ∙ sym (result_of_length (sheet_in a.rows.now) a.processors a.method))
          ∙ front_put _ text a.out.now none-holds;
    }
