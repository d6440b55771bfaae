-- `answer_row` lends the front of 64 words, which every allowed sheet fits.
use mathlib.Core.Path.{◌≡◌, ◌∙◌, sym}
use Prim.Native.Nat.{ℕ}
use lib.ListN.{length, take, replicate}
use lib.Seq.{length-take-le}
use native.Mathlib.Omega.{arith}
use Rattle.model.proofs.Sheet.{few_rows}
use Rattle.response.proofs.answer_row.Goals as goal
use Rattle.response.proofs.answer_row.Goals.{Start}

pub slice_bounds-taken-end : goal.slice_bounds-taken-end
slice_bounds-taken-end c = omega (arith, few_rows _ c.args.given.now.ready.rows, c.args.given.now.ready.one_each)

-- As many words are lent as there are rows.
lent : (c : Start) → let n = length c.args.given.now.bounds.now in length {A = ℕ} (take n (replicate 64 0)) ≡ n
lent c = length-take-le _ (replicate 64 0) (omega (arith, few_rows _ c.args.given.now.ready.rows, c.args.given.now.ready.one_each))

pub slice_bounds-answer_in-end : goal.slice_bounds-answer_in-end
slice_bounds-answer_in-end c = sym (lent (goal.at.slice_bounds-answer_in-end c).Start)

pub answer_in-requires : goal.answer_in-requires
answer_in-requires c = (c.requires, lent (goal.at.answer_in-requires c).Start ∙ c.args.given.now.ready.one_each)
