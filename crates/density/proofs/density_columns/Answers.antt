-- `density_columns` is refused by the rows' shape, or answered as its columns are.
use mathlib.Core.Path.{◌∙◌, ap}
use Rattle.rows.proofs.InOrder.{ended}
use Rattle.quick_look.specs.Told.{reply_said}
use Rattle.quick_look.proofs.Told.{reply_by_shape}
use Rattle.density.proofs.density_columns.Goals as goal

pub returns-in_err-rows : goal.returns-in_err-rows
returns-in_err-rows c = ap reply_said (ended _ _ c.from_residual.ensures.1) ∙ reply_by_shape _ _ _ c.in_err-rows.ensures.shape
