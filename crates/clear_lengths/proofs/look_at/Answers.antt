-- `clear_lengths::look_at` meets its contract: a row's demand is its jobs, each of its cost, and both numbers stay near the length.
use mathlib.Core.Path.{◌≡◌}
use native.Mathlib.Omega.{arith}
use Rattle.model.specs.Demand.{demand_of}
use Rattle.columns.specs.Checked.{checked_sheet}
use Rattle.verdict.specs.Inner.{jobs_within, next_due, look_of}
use Rattle.verdict.proofs.Row.{jobs_demand}
use Rattle.verdict.proofs.Looked.{look_early}
use Rattle.verdict.proofs.Sound.{row_sizes, row_look_small}
use Rattle.clear_lengths.proofs.look_at.Goals as goal
use Rattle.clear_lengths.proofs.look_at.Goals.{After-jobs_within-jobs}

-- The jobs are those of the row.
jobs : (c : After-jobs_within-jobs) → let s = checked_sheet c.args.checked in
    c.jobs_within-jobs.result ≡ jobs_within (s.deadline c.args.row) (s.period c.args.row) c.args.length
jobs c = rw (← c.deadline-deadline.ensures, ← c.period-period.ensures) c.jobs_within-jobs.ensures

pub returns-then-length-deadline : goal.returns-then-length-deadline
returns-then-length-deadline c =
    rw c.deadline-deadline.ensures (look_early _ _ _ (row_sizes _ c.args.checked.sizes _ c.requires.0).within_period (rw c.deadline-deadline.ensures at c.if-length-deadline.true))

pub jobs_within-jobs-requires-clause-some_period : goal.jobs_within-jobs-requires-clause-some_period
jobs_within-jobs-requires-clause-some_period c = let row = row_sizes _ c.args.checked.sizes _ c.requires.0 in omega arith

pub overflow_mul-next : goal.overflow_mul-next
overflow_mul-next c = rw c.period-period.ensures (omega (arith, row_look_small _ c.args.checked.sizes _ c.requires.0 c.requires.1 (jobs (goal.at.overflow_mul-next c).After-jobs_within-jobs)))

pub overflow_add-next : goal.overflow_add-next
overflow_add-next c =
    rw (c.deadline-deadline.ensures, c.period-period.ensures) (omega (arith, row_look_small _ c.args.checked.sizes _ c.requires.0 c.requires.1 (jobs (goal.at.overflow_add-next c).After-jobs_within-jobs)))

pub overflow_mul-result : goal.overflow_mul-result
overflow_mul-result c = rw c.cost.ensures (omega (arith, row_look_small _ c.args.checked.sizes _ c.requires.0 c.requires.1 (jobs (goal.at.overflow_mul-result c).After-jobs_within-jobs)))

pub returns : goal.returns
unfolding look_of demand_of next_due
returns c =
    rw (c.saturating_sub.ensures, c.cost.ensures, c.deadline-deadline.ensures, c.period-period.ensures, jobs (goal.at.returns c).After-jobs_within-jobs, jobs_demand)
