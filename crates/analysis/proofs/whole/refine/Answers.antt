-- `refine` is refused by the rows' shape, or answered as the same rows are in columns.
use mathlib.Core.Path.{sym, ◌∙◌, ap}
use lib.ListN.{length}
use Rattle.rows.proofs.InOrder.{ended}
use Rattle.refinement.specs.Told.{marks_said}
use Rattle.refinement.proofs.Layouts.{refined-same, refined_words_same}
use Rattle.refinement.proofs.ByShape.{marks_by_shape, words_by_shape}
use Rattle.analysis.proofs.whole.refine.Goals as goal

pub returns-in_err-rows : goal.returns-in_err-rows
returns-in_err-rows g c =
    record {
      answered = ap marks_said (ended _ _ c.from_residual.ensures.1) ∙ marks_by_shape _ _ _ _ c.in_err-rows.ensures.shape _ c.args.bounds.now _;
      written = words_by_shape _ _ _ _ c.in_err-rows.ensures.shape _ _;
    }

pub returns : goal.returns
returns g c =
    let engine = g.E.Engine.ends in
    let out = c.args.bounds.now in
    let same = c.in_ok-rows.ensures.same in
    record {
      answered = c.refined.ensures.answered ∙ sym (refined-same _ _ same _ _ engine g.E.Engine.alike (length out));
      written = c.refined.ensures.written ∙ sym (refined_words_same _ _ same _ _ engine g.E.Engine.alike out);
    }
