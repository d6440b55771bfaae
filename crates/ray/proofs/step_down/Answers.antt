-- `step_down` puts each lower bound behind those before it, until all are there.
use native.Mathlib.Omega.{arith}
use mathlib.Core.Path.{◌≡◌, ap}
use Prim.Native.Nat.{ℕ, ◌*◌, ◌-◌}
use lib.ListN.{length, get_or}
use Rattle.laws.proofs.Fill.{listed-none, listed_more, listed_all, listed_next}
use Rattle.model.specs.Inner.{along}
use Rattle.ray.proofs.step_down.Goals as goal

pub loop-row-init : goal.loop-row-init
loop-row-init c = listed-none _ _

pub loop-row-preserved : goal.loop-row-preserved
loop-row-preserved c =
    let q = c.loop-row in
    listed_more _ q.row c.args.bounds.now q.bounds _ c.loop-row-test.true q.invariant
    (ap (λ (bound : ℕ). bound - c.args.steps * get_or c.args.drops.now.each q.row 0) (listed_next _ _ _ _ q.invariant))

pub returns : goal.returns
unfolding along
returns c =
    let q = c.loop-row in
    let done : q.row ≡ length c.args.bounds.now = omega arith in
    rw (← done) (listed_all _ _ _ _ (omega arith) q.invariant)
