-- `reply_number` gives each case the number that its definition gives it.
use mathlib.Core.Path.{sym, ap}
use Rattle.quick_look.specs.DensityTest.{reply_number}
use Rattle.board.proofs.cases.reply_number.Goals as goal

pub returns-in-Unsure : goal.returns-in-Unsure
unfolding reply_number
returns-in-Unsure c = ap reply_number (sym c.in-Unsure.is)

pub returns-in-Yes : goal.returns-in-Yes
unfolding reply_number
returns-in-Yes c = ap reply_number (sym c.in-Yes.is)

pub returns-in-No : goal.returns-in-No
unfolding reply_number
returns-in-No c = ap reply_number (sym c.in-No.is)
