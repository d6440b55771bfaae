-- `one_row` is refused by the rows' shape, or answered as the same rows are in columns.
use mathlib.Core.Path.{sym, ◌∙◌, ap}
use Rattle.rows.proofs.InOrder.{ended}
use Rattle.refinement.specs.Told.{row_said}
use Rattle.refinement.proofs.Layouts.{one_row_same}
use Rattle.refinement.proofs.ByShape.{row_by_shape}
use Rattle.analysis.proofs.question.one_row.Goals as goal

pub returns-in_err-rows : goal.returns-in_err-rows
returns-in_err-rows c = ap row_said (ended _ _ c.from_residual.ensures.1) ∙ row_by_shape _ _ _ _ c.in_err-rows.ensures.shape _ _

pub returns : goal.returns
returns c = c.answered.ensures ∙ sym (one_row_same _ _ c.in_ok-rows.ensures.same _ _ _ _)
