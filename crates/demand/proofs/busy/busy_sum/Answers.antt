-- `demand::busy::busy_sum` meets its contract. The loop's invariant: the sum is that of the rows passed. At most 64 rows keep it
-- below 2 ^ 31.
use mathlib.Core.Path.{◌≡◌, refl, ◌∙◌, ap}
use native.Mathlib.Omega.{arith}
use Rattle.laws.specs.Sum.{total}
use Rattle.laws.proofs.Sum.{total_step}
use Rattle.model.specs.Demand.{busy}
use Rattle.verdict.proofs.Sound.{busy_sum_small}
use Rattle.demand.proofs.busy.busy_sum.Goals as goal

pub loop-row-init : goal.loop-row-init
unfolding total
loop-row-init c = refl

pub overflow_add-sum : goal.overflow_add-sum
overflow_add-sum c =
    omega (arith, c.busy_part-sum.ensures, busy_sum_small _ c.args.checked.sizes _ c.requires.1 c.loop-row.row (omega (arith, c.count-row-end.ensures)))

pub loop-row-preserved : goal.loop-row-preserved
loop-row-preserved c = rw (total_step, ← c.loop-row.invariant, c.busy_part-sum.ensures)

pub returns : goal.returns
unfolding busy
returns c =
    let all : c.loop-row.row ≡ c.count-row-end.result = omega arith in
    c.loop-row.invariant ∙ ap (total _) (all ∙ c.count-row-end.ensures)
