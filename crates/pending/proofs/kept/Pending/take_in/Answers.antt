-- `take_in` writes the row down behind those kept: counted it adds what it adds, not counted what is settled for it.
use native.Mathlib.Omega.{arith}
use mathlib.Core.Path.{◌∙◌, ap}
use Prim.Native.Nat.{ℕ, ◌+◌}
use Rattle.refinement.proofs.Kept.{sum_more, sum_settled, small_share}
use Rattle.pending.specs.Added.{added}
use Rattle.pending.proofs.kept.Pending.take_in.Goals as goal

pub returns-then-other-gt1-clause-sums : goal.returns-then-other-gt1-clause-sums
returns-then-other-gt1-clause-sums c x cap window some_cap =
    let self = c.args.self.now in
    sum_more self.others self.left c.other_row-other.result self.kept.rows (omega (arith, c.requires.2)) self.settled x cap
    ∙ ap (λ (n : ℕ). added self x cap + n) (c.other_row-other.ensures.adds x cap)

pub returns-else-other-gt1-clause-sums : goal.returns-else-other-gt1-clause-sums
returns-else-other-gt1-clause-sums c x cap window some_cap =
    let self = c.args.self.now in
    sum_settled self.others self.left c.other_row-other.result self.kept.rows (omega (arith, c.requires.2)) self.settled x cap
    (small_share c.other_row-other.result x cap c.other_row-other.ensures.known.sizes.some_cost window some_cap c.if-other-gt1.false)
    ∙ ap (λ (n : ℕ). added self x cap + n) (c.other_row-other.ensures.adds x cap)
