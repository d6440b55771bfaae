-- `one_processor` is refused by the rows' shape, or answered as the same rows are in columns.
use mathlib.Core.Path.{sym, ◌∙◌, ap}
use Rattle.rows.proofs.InOrder.{ended}
use Rattle.verdict.specs.Told.{outcome_said}
use Rattle.verdict.proofs.Promised.{one_processor_same}
use Rattle.verdict.proofs.Told.{outcome_by_shape}
use Rattle.demand.proofs.one_processor.Goals as goal

pub returns-in_err-rows : goal.returns-in_err-rows
returns-in_err-rows c = ap outcome_said (ended _ _ c.from_residual.ensures.1) ∙ outcome_by_shape _ _ _ c.in_err-rows.ensures.shape

pub returns : goal.returns
returns c = c.tested.ensures ∙ sym (one_processor_same _ _ c.in_ok-rows.ensures.same _)
