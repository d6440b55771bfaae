-- `run_at_once` starts from the deadlines, which are on the way to its end.
use Rattle.model.specs.Sheet.{columns}
use Rattle.engines.proofs.Start.{underway_first, front}
use Rattle.engines.proofs.run_at_once.Goals as goal

pub settle_at_once-requires : goal.settle_at_once-requires
unfolding columns
settle_at_once-requires c =
    let asked = c.args.asked.now in
    (underway_first asked _ c.copy_from_slice.ensures.after, front asked _ asked.rows.deadlines_each)
