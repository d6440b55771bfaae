-- `write_result` is refused by the rows' shape, or written as the same rows are in columns.
use mathlib.Core.Path.{sym, ◌∙◌, ap}
use lib.ListN.{length}
use Rattle.rows.proofs.InOrder.{ended}
use Rattle.grammar.specs.Told.{written_said}
use Rattle.report.proofs.Entries.{written_same, bytes_same}
use Rattle.report.proofs.Told.{length_by_shape, out_by_shape}
use Rattle.result.proofs.rows_refined.write_result.Goals as goal

pub returns-in_err-rows : goal.returns-in_err-rows
returns-in_err-rows c =
    record {
      value = ap written_said (ended _ _ c.from_residual.ensures.1) ∙ length_by_shape _ _ _ _ c.in_err-rows.ensures.shape _;
      out_after = out_by_shape _ _ _ _ c.in_err-rows.ensures.shape _;
    }

pub returns : goal.returns
returns c =
    let out = c.args.out.now in
    let same = c.in_ok-rows.ensures.same in
    record {
      value = c.written.ensures.value ∙ sym (written_same _ _ same _ _ (length out));
      out_after = c.written.ensures.out_after ∙ sym (bytes_same _ _ same _ _ out);
    }
