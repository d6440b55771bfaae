-- The number read digit by digit: one digit more is the definition's next line, and so few leave room for one more.
use Prim.Native.Nat.{◌+◌, ◌-◌, ◌^◌, ◌<◌}
use mathlib.Core.Path.{◌≡◌, ◌∙◌, ap}
use native.Mathlib.Omega.{arith}
use Rattle.std.proofs.Common.{rules}
use lib.ListN.{get_or}
use Rattle.digits.specs.Digits.{digit_value, number}
use Rattle.digits.proofs.Number.{number_more, number_small}
use Rattle.digits.proofs.numbers.number.Goals as goal
use Rattle.digits.proofs.numbers.number.Goals.{At-loop-place}

-- The sum so far leaves room for one digit more.
small : (c : At-loop-place) → c.loop-place.sum < 2 ^ 25
small c = rw c.loop-place.invariant (number_small c.args.bytes.now c.args.at (c.loop-place.place - c.args.at) (omega arith))

pub loop-place-init : goal.loop-place-init
unfolding number
loop-place-init c =
    let none_passed : c.args.at - c.args.at ≡ 0 = omega arith in
    rw none_passed

pub overflow_mul-sum : goal.overflow_mul-sum
overflow_mul-sum c = omega (arith, small (goal.at.overflow_mul-sum c).At-loop-place)

pub overflow_add-sum : goal.overflow_add-sum
overflow_add-sum c = omega (arith, small (goal.at.overflow_add-sum c).At-loop-place)

pub loop-place-preserved : goal.loop-place-preserved
loop-place-preserved c =
    let p = c.args in
    let q = c.loop-place in
    let passed = q.place - p.at in
    let more : q.place + 1 - p.at ≡ passed + 1 = omega arith in
    let here : p.at + passed ≡ q.place = omega arith in
    let digit : c.digit_value.result ≡ digit_value (get_or p.bytes.now (p.at + passed) 0) =
    rw here (c.digit_value.ensures ∙ ap digit_value (search rules)) in
    rw more (omega (arith, number_more p.bytes.now p.at passed))
