-- `answer_input` writes as much of the output as the answer has: the answer stands in it, so it is no longer.
use Rattle.std.proofs.Common.{sym, length-take-le, arith}
use Rattle.terminal.proofs.Stopping.{read_fits}
use Rattle.terminal.proofs.answer_input.Goals as goal

pub slice_bounds-out-end : goal.slice_bounds-out-end
slice_bounds-out-end g c = read_fits _ _ _ _ (omega (arith, c.in_ok-count.ensures.fits, length-take-le _ _ c.in_ok-count.ensures.fits)) c.answer_read-length.ensures

pub slice_bounds-write_all-end : goal.slice_bounds-write_all-end
slice_bounds-write_all-end g c =
    sym (length-take-le _ _ (read_fits _ _ _ _ (omega (arith, c.in_ok-count.ensures.fits, length-take-le _ _ c.in_ok-count.ensures.fits)) c.answer_read-length.ensures))
