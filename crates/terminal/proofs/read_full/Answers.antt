-- `read_full` ends where the space is full, or where a read gives nothing although there was room: then the input is at its end.
use Rattle.std.proofs.Common.{rules}
use Rattle.terminal.proofs.Reading.{lost_more}
use Rattle.terminal.proofs.read_full.Goals as goal

pub loop-count-preserved : goal.loop-count-preserved
loop-count-preserved g c =
    (search rules, lost_more _ _ _ _ _ _ _ _ c.loop-count.invariant.0 c.in_ok-more.ensures.bound.0 c.loop-count.invariant.1 c.in_ok-more.ensures.bytes.0)
