-- `one_processor_columns` is refused by the rows' shape, or answered as its columns are.
use mathlib.Core.Path.{◌∙◌, ap}
use Rattle.rows.proofs.InOrder.{ended}
use Rattle.verdict.specs.Told.{outcome_said}
use Rattle.verdict.proofs.Told.{outcome_by_shape}
use Rattle.demand.proofs.one_processor_columns.Goals as goal

pub returns-in_err-rows : goal.returns-in_err-rows
returns-in_err-rows c = ap outcome_said (ended _ _ c.from_residual.ensures.1) ∙ outcome_by_shape _ _ _ c.in_err-rows.ensures.shape
