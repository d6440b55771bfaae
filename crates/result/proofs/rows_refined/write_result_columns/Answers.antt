-- `write_result_columns` is refused by the rows' shape, or written as its columns are.
use mathlib.Core.Path.{◌∙◌, ap}
use Rattle.rows.proofs.InOrder.{ended}
use Rattle.grammar.specs.Told.{written_said}
use Rattle.report.proofs.Told.{length_by_shape, out_by_shape}
use Rattle.result.proofs.rows_refined.write_result_columns.Goals as goal

pub returns-in_err-rows : goal.returns-in_err-rows
returns-in_err-rows c =
    record {
      value = ap written_said (ended _ _ c.from_residual.ensures.1) ∙ length_by_shape _ _ _ _ c.in_err-rows.ensures.shape _;
      out_after = out_by_shape _ _ _ _ c.in_err-rows.ensures.shape _;
    }
