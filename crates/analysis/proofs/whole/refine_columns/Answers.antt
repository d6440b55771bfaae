-- `refine_columns` is refused by the rows' shape, or answered as its columns are.
use mathlib.Core.Path.{◌∙◌, ap}
use Rattle.rows.proofs.InOrder.{ended}
use Rattle.refinement.specs.Told.{marks_said}
use Rattle.refinement.proofs.ByShape.{marks_by_shape, words_by_shape}
use Rattle.analysis.proofs.whole.refine_columns.Goals as goal

pub returns-in_err-rows : goal.returns-in_err-rows
returns-in_err-rows g c =
    record {
      answered = ap marks_said (ended _ _ c.from_residual.ensures.1) ∙ marks_by_shape _ _ _ _ c.in_err-rows.ensures.shape _ c.args.bounds.now _;
      written = words_by_shape _ _ _ _ c.in_err-rows.ensures.shape _ _;
    }
