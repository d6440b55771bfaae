-- The byte of a digit's value: the two ways through the test are the two ranges of the last digit.
use mathlib.Core.Path.{sym}
use Rattle.digits.proofs.Digit.{byte_decimal, byte_letter}
use Rattle.digits.proofs.digit_byte.Goals as goal

pub returns-then-last-lt10 : goal.returns-then-last-lt10
returns-then-last-lt10 c = sym (byte_decimal c.args.value c.if-last-lt10.true)

pub returns-else-last-lt10 : goal.returns-else-last-lt10
returns-else-last-lt10 c = sym (byte_letter c.args.value c.if-last-lt10.false)
