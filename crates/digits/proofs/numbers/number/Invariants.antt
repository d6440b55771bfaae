-- The loop of `number`: the sum so far is the number of the digits before the place.
use Prim.Native.Nat.{◌-◌}
use mathlib.Core.Path.{◌≡◌}
use Rattle.digits.specs.Digits.{number}
use Rattle.digits.proofs.numbers.number.Given as goal

abbrev pub invariant-loop-place : goal.invariant-loop-place
invariant-loop-place l = l.sum ≡ number l.bytes l.at (l.place - l.at)
