-- The loop of `fill`: the digits still to come and what is stored behind them are together the digits asked for.
use mathlib.Core.Path.{◌≡◌}
use mathlib.Core.List.{◌++◌}
use lib.ListN.{length, drop}
use Rattle.digits.specs.Digits.{digits}
use Rattle.digits.proofs.numbers.fill.Given as goal

abbrev pub invariant-loop-place : goal.invariant-loop-place
invariant-loop-place l = digits l.place l.rest ++ drop l.place l.out ≡ digits (length l.initial.out) l.value
