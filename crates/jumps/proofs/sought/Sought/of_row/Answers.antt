-- A row's cost and its deadline have the sizes allowed; the processors are those asked for.
use native.Mathlib.Omega.{arith}
use Rattle.model.proofs.Sheet.{row_sized}
use Rattle.jumps.proofs.sought.Sought.of_row.Goals as goal

pub invariant_of-result : goal.invariant_of-result
invariant_of-result c =
    let sized = row_sized _ c.args.asked.now.allowed c.args.row c.requires in
    record { some_cost = omega arith; small = omega arith; few_processors = c.args.asked.now.few_processors }
