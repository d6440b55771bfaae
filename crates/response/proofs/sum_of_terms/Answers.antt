-- `sum_of_terms` is the sum over the places passed; each term is within the cap, so 64 of them fit.
use mathlib.Core.Path.{refl}
use Prim.Native.Nat.{◌≤◌}
use Rattle.model.proofs.Sheet.{few_rows}
use Rattle.refinement.specs.Asked.{sheet}
use Rattle.laws.specs.Sum.{total}
use Rattle.laws.proofs.Sum.{total_step}
use Rattle.refinement.specs.Inner.{listed_share, term_of}
use Rattle.refinement.proofs.Limits.{term_within_cap}
use native.Mathlib.Omega.{arith}
use Rattle.response.proofs.sum_of_terms.Goals as goal
use Rattle.response.proofs.sum_of_terms.Goals.{After-term-sum}

pub loop-other-init : goal.loop-other-init
unfolding total
loop-other-init c = (refl, omega arith)

-- What a turn of the loop adds is within the cap.
capped : (c : After-term-sum) → c.term-sum.result ≤ c.args.cap
capped c = rw c.term-sum.ensures (term_within_cap _ _ _ _ _ _)

pub overflow_add-sum : goal.overflow_add-sum
overflow_add-sum c =
    omega (arith, few_rows _ c.args.given.now.ready.rows, c.count-other-end.ensures, c.requires.3, capped (goal.at.overflow_add-sum c).After-term-sum)

pub loop-other-preserved : goal.loop-other-preserved
loop-other-preserved c = (
  omega (
    arith,
    c.term-sum.ensures,
    total_step (term_of (sheet c.args.given.now.asked) c.args.given.now.bounds.now (listed_share c.args.taken.now) c.args.x c.args.cap) c.loop-other.other,
  ),
  omega (arith, c.requires.3, capped (goal.at.loop-other-preserved c).After-term-sum),
)
