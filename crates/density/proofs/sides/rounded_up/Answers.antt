-- `density::sides::rounded_up` meets its contract: rounded up is one more than rounded down exactly where a rest is left.
use mathlib.Core.Path.{◌∙◌, ap}
use Prim.Native.Nat.{ℕ, ◌+◌, ◌*◌, ◌≤◌}
use native.Mathlib.Nat.{div-mul-le_self}
use native.Mathlib.Omega.{arith}
use Rattle.model.specs.Density.{billion}
use Rattle.model.proofs.Rounding.{up_with_rest, up_without_rest}
use Rattle.density.proofs.sides.rounded_up.Goals as goal

pub overflow_mul-down : goal.overflow_mul-down
unfolding billion
overflow_mul-down c =
    let args = c.args in
    let within : args.down * args.deadline ≤ args.cost * billion = rw c.requires.1 (div-mul-le_self (args.cost * billion) args.deadline) in
    rw c.from.ensures (omega arith)

pub returns-then-down-from : goal.returns-then-down-from
unfolding billion
returns-then-down-from c =
    let args = c.args in
    let down = c.requires.1 in
    ap (λ (quotient : ℕ). quotient + 1) down
    ∙ up_with_rest (args.cost * billion) args.deadline c.requires.0 (rw (down, c.from.ensures, c.from-2.ensures) at c.if-down-from.true)

pub returns-else-down-from : goal.returns-else-down-from
unfolding billion
returns-else-down-from c =
    let args = c.args in
    let down = c.requires.1 in
    down ∙ up_without_rest (args.cost * billion) args.deadline c.requires.0 (rw (down, c.from.ensures, c.from-2.ensures) at c.if-down-from.false)
