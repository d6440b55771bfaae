-- `work_in_time` is the work of document 01 in a time: what is left of it after its whole periods is the remainder.
use native.Mathlib.Nat.{mod-eq-sub-div-mul}
use Rattle.model.specs.Interference.{carried}
use native.Mathlib.Omega.{arith}
use Rattle.interference.proofs.work_in_time.Goals as goal

pub returns : goal.returns
unfolding carried
returns c = omega (arith, mod-eq-sub-div-mul c.args.time c.args.period)
