-- `right_side` is RTA's right side: the terms from the prepared shares sum up to it, within 65 millions.
use Prim.Native.Nat.{◌+◌, ◌-◌, ◌≤◌}
use native.Mathlib.Nat.{div-le_self}
use Rattle.model.proofs.Sheet.{row_sized}
use Rattle.refinement.proofs.Shares.{prepared_length, terms_sum_small, right_from_terms}
use native.Mathlib.Omega.{arith}
use Rattle.response.proofs.prepared.Prepared.right_side.Goals as goal

pub overflow_add-x : goal.overflow_add-x
overflow_add-x c =
    let sized = row_sized _ c.args.self.now.shared.ready.rows c.args.self.now.row c.args.self.now.shared.inside in
    omega (arith, c.requires.1)

pub sum_of_terms-requires : goal.sum_of_terms-requires
sum_of_terms-requires c =
    let sized = row_sized _ c.args.self.now.shared.ready.rows c.args.self.now.row c.args.self.now.shared.inside in (
      prepared_length _ _ _ _ _ _ c.args.self.now.shared,
      omega (arith, c.requires.0),
      omega (arith, c.requires.1),
      omega (arith, c.requires.1, c.cost-own.ensures),
    )

pub overflow_add-result : goal.overflow_add-result
overflow_add-result c =
    let sized = row_sized _ c.args.self.now.shared.ready.rows c.args.self.now.row c.args.self.now.shared.inside in
    let small : c.args.x - c.cost-own.result + 1 ≤ 1_000_000 = omega (arith, c.requires.1, c.cost-own.ensures) in
    omega (
      arith,
      div-le_self c.sum_of_terms.result c.args.self.now.given.now.asked.processors,
      terms_sum_small _ _ _ _ _ _ c.args.self.now.shared c.args.x (c.args.x - c.cost-own.result + 1) small,
    )

pub returns : goal.returns
returns c = right_from_terms _ _ _ _ _ _ c.args.self.now.shared _ c.sum_of_terms.result c.args.x c.cost-own.ensures c.requires.1 c.sum_of_terms.ensures
