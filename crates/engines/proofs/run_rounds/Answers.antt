-- `run_rounds` starts from the deadlines, which are on the way to its end.
use mathlib.Core.Path.{◌∙◌}
use Rattle.engines.proofs.Start.{underway_first, front}
use Rattle.engines.proofs.run_rounds.Goals as goal

pub settle_rounds-requires : goal.settle_rounds-requires
settle_rounds-requires c =
    let asked = c.args.asked.now in
    let copied = c.copy_from_slice.ensures in
    (underway_first asked _ copied.after, front asked _ (copied.len ∙ c.requires))
