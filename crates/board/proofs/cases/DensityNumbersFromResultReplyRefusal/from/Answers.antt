-- The answer of the density test in numbers: each part of it, its enum by a number.
use Rattle.quick_look.specs.DensityTest.{reply_number}
use Rattle.board.specs.Face.{density_in_numbers}
use Rattle.board.proofs.cases.DensityNumbersFromResultReplyRefusal.from.Goals as goal

pub returns-in-Ok : goal.returns-in-Ok
unfolding density_in_numbers
returns-in-Ok c = rw (c.in-Ok.is, c.reply_number.ensures)

pub returns-in-Err : goal.returns-in-Err
unfolding density_in_numbers reply_number
returns-in-Err c = rw (c.in-Err.is, c.number.ensures, c.place.ensures)
