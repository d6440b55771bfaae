-- `density` is refused by the rows' shape, or answered as the same rows are in columns.
use mathlib.Core.Path.{sym, ◌∙◌, ap}
use Rattle.rows.proofs.InOrder.{ended}
use Rattle.quick_look.specs.Told.{reply_said}
use Rattle.quick_look.proofs.Promised.{density-same}
use Rattle.quick_look.proofs.Told.{reply_by_shape}
use Rattle.density.proofs.density.Goals as goal

pub returns-in_err-rows : goal.returns-in_err-rows
returns-in_err-rows c = ap reply_said (ended _ _ c.from_residual.ensures.1) ∙ reply_by_shape _ _ _ c.in_err-rows.ensures.shape

pub returns : goal.returns
returns c = c.judged.ensures ∙ sym (density-same _ _ c.in_ok-rows.ensures.same _)
