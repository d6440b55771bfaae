-- `clear_lengths::jobs_within` meets its contract: by the test that the definition makes, and up to a period behind the deadline the
-- quotient is 0.
use mathlib.Core.Path.{sym}
use native.Mathlib.Omega.{arith}
use Rattle.verdict.proofs.Row.{jobs_before, jobs_once, jobs_from}
use Rattle.clear_lengths.proofs.jobs_within.Goals as goal

pub returns-then-length-deadline : goal.returns-then-length-deadline
returns-then-length-deadline c = sym (jobs_before _ _ _ c.if-length-deadline.true)

pub returns-then-past-period : goal.returns-then-past-period
returns-then-past-period c = sym (jobs_once _ _ _ c.if-length-deadline.false (omega arith))

pub returns : goal.returns
returns c = sym (jobs_from _ _ _ c.if-length-deadline.false)
