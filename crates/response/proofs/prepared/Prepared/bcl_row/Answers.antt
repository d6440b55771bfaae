-- `bcl_row` is BCL's answer: the prepared shares sum up to the formula's, and the test is the definition's own.
use mathlib.Core.Path.{◌≡◌, refl, ◌∙◌, ap, ap₂}
use mathlib.Core.Bool.{Bool, true, false}
use mathlib.Core.Option.{none, some}
use Prim.Native.Nat.{ℕ}
use lib.Dec.{leb}
use lib.ListN.{get_or}
use native.Mathlib.Nat.{div-le_self}
use Rattle.std.specs.Bool.{then_some}
use Rattle.laws.specs.Choice.{pick}
use Rattle.laws.specs.Sum.{total}
use Rattle.model.proofs.Sheet.{row_sized, few_rows}
use Rattle.model.specs.Answer.{bcl_answer}
use Rattle.rows.specs.Words.{found_of}
use Rattle.refinement.specs.Asked.{sheet}
use Rattle.refinement.proofs.Shares.{prepared_length, prepared_small, shares_sum_small, value_from_shares}
use native.Mathlib.Omega.{arith}
use Rattle.response.proofs.prepared.Prepared.bcl_row.Goals as goal
use Rattle.response.proofs.prepared.Prepared.bcl_row.Goals.{After-sum_of_shares}

pub sum_of_shares-requires : goal.sum_of_shares-requires
sum_of_shares-requires c =
    let size = prepared_length _ _ _ _ _ _ c.args.self.now.shared in
    (omega (arith, few_rows _ c.args.self.now.shared.ready.rows), λ i inside. prepared_small _ _ _ _ _ _ c.args.self.now.shared i (rw size at inside))

-- The sum is over every row of the sheet.
summed : (c : After-sum_of_shares) → c.sum_of_shares.result ≡ total (λ i. get_or c.args.self.now.taken.now i 0) (sheet c.args.self.now.given.now.asked).rows
summed c = c.sum_of_shares.ensures ∙ ap (total _) (prepared_length _ _ _ _ _ _ c.args.self.now.shared)

pub overflow_add-value : goal.overflow_add-value
overflow_add-value c =
    let sized = row_sized _ c.args.self.now.shared.ready.rows c.args.self.now.row c.args.self.now.shared.inside in
    omega (
      arith,
      div-le_self c.sum_of_shares.result c.args.self.now.given.now.asked.processors,
      summed (goal.at.overflow_add-value c).After-sum_of_shares,
      shares_sum_small _ _ _ _ _ _ c.args.self.now.shared,
    )

-- A value where a test holds, and none where it fails.
tested : (meets : Bool) (value : ℕ) → then_some meets value ≡ found_of (pick meets (some value) none)
unfolding found_of
tested true value = refl
tested false value = refl

pub returns : goal.returns
unfolding bcl_answer
returns c =
    let value = value_from_shares _ _ _ _ _ _ c.args.self.now.shared _ c.sum_of_shares.result c.cost.ensures (summed (goal.at.returns c).After-sum_of_shares) in
    c.then_some.ensures
    ∙ tested _ _
    ∙ ap₂ (λ (value deadline : ℕ). found_of (pick (leb value deadline) (some value) none)) value c.deadline.ensures
