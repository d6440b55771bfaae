-- A digit behind a number: of the number so much is kept that 32 bits hold both.
use native.Mathlib.Omega.{arith}
use Rattle.pieces.specs.Feeding.{digit_more}
use Rattle.line_one.proofs.digit_more.Goals as goal

pub returns : goal.returns
unfolding digit_more
returns c = omega (arith, c.digit_value.ensures)
