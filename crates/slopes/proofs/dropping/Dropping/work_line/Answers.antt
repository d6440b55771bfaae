-- `work_line` lies over the work: whole periods of a step take whole costs, and the rest takes itself while the time ends within a job.
use native.Mathlib.Omega.{arith}
use Rattle.model.proofs.Lines.{work_falls, work_falls_fast}
use Rattle.slopes.proofs.dropping.Dropping.work_line.Goals as goal

pub returns : goal.returns
returns c =
    let a = c.args in
    let r = a.self.now in
    let lasts = c.steps_within-lasts.ensures in
    c.falling.ensures _
    (rw c.work_in_time.ensures (work_falls r.cost r.period a.time a.shrink r.sizes.0 a.most c.requires.2))
    (λ some.
    rw c.work_in_time.ensures
    (work_falls_fast r.cost r.period a.time a.shrink r.sizes.0 _ (λ t h. c.requires.2 t (omega arith)) (lasts.shows some)
    (λ t h. lasts.inside t (omega arith))))
