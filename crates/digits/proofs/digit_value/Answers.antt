-- The value of a digit byte: each of the seven ways through the `match` is one of the byte's ranges, or one of the gaps before, between and
-- behind them.
use native.Mathlib.Omega.{arith}
use Rattle.digits.proofs.Digit.{value_decimal, value_upper, value_lower, value_none}
use Rattle.digits.proofs.digit_value.Goals as goal

pub returns-in-48-to-57 : goal.returns-in-48-to-57
returns-in-48-to-57 c = omega (arith, value_decimal c.args.byte (omega arith) (omega arith))

pub returns-in-65-to-70 : goal.returns-in-65-to-70
returns-in-65-to-70 c = omega (arith, value_upper c.args.byte (omega arith) (omega arith))

pub returns-in-97-to-102 : goal.returns-in-97-to-102
returns-in-97-to-102 c = omega (arith, value_lower c.args.byte (omega arith) (omega arith))

pub returns-in_default : goal.returns-in_default
returns-in_default c = omega (arith, value_none c.args.byte (λ from upto. omega arith) (λ from upto. omega arith) (λ from upto. omega arith))

pub returns-in_default-2 : goal.returns-in_default-2
returns-in_default-2 c =
    omega (
      arith,
      value_none c.args.byte (λ from upto. omega arith) (λ from upto. omega arith) (λ from upto. omega arith),
    )

pub returns-in_default-3 : goal.returns-in_default-3
returns-in_default-3 c =
    omega (
      arith,
      value_none c.args.byte (λ from upto. omega arith) (λ from upto. omega arith) (λ from upto. omega arith),
    )

pub returns-in_default-4 : goal.returns-in_default-4
returns-in_default-4 c =
    omega (
      arith,
      value_none c.args.byte (λ from upto. omega arith) (λ from upto. omega arith) (λ from upto. omega arith),
    )
