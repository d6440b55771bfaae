-- `one_row_columns` is refused by the rows' shape, or answered as its columns are.
use mathlib.Core.Path.{◌∙◌, ap}
use Rattle.rows.proofs.InOrder.{ended}
use Rattle.refinement.specs.Told.{row_said}
use Rattle.refinement.proofs.ByShape.{row_by_shape}
use Rattle.analysis.proofs.question.one_row_columns.Goals as goal

pub returns-in_err-rows : goal.returns-in_err-rows
returns-in_err-rows c = ap row_said (ended _ _ c.from_residual.ensures.1) ∙ row_by_shape _ _ _ _ c.in_err-rows.ensures.shape _ _
