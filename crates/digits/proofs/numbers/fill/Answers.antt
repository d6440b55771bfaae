-- The lent part is filled from its end: what is stored stands behind the digits still to come, and together they are the digits asked for.
use mathlib.Core.Path.{◌≡◌, ◌∙◌}
use native.Mathlib.Omega.{arith}
use Rattle.digits.specs.Digits.{digit_byte, digits}
use Rattle.digits.proofs.Digit.{byte_last}
use Rattle.digits.proofs.Number.{digits_store}
use Rattle.digits.proofs.numbers.fill.Goals as goal

pub loop-place-preserved : goal.loop-place-preserved
loop-place-preserved c =
    let q = c.loop-place in
    let byte : c.digit_byte.result ≡ digit_byte q.rest = c.digit_byte.ensures ∙ byte_last q.rest in
    rw byte (digits_store q.out q.place q.rest (omega arith) (omega arith) ∙ q.invariant)

pub returns : goal.returns
unfolding digits
returns c =
    let q = c.loop-place in
    let none_left : q.place ≡ 0 = omega arith in
    rw none_left at q.invariant
