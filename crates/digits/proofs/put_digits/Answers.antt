-- Digits at an offset: the part that has room for them is filled and put back; where there is no room nothing is written.
use mathlib.Core.Path.{sym}
use native.Mathlib.Omega.{arith}
use Rattle.digits.proofs.Number.{digits_without_room, part_filled}
use Rattle.digits.proofs.put_digits.Goals as goal

pub returns-then-at-out : goal.returns-then-at-out
returns-then-at-out c =
    let p = c.args in
    part_filled p.out.now c.fill.new.out p.at p.count p.value (omega arith) c.fill.ensures

pub returns-else-at-out : goal.returns-else-at-out
returns-else-at-out c =
    let p = c.args in
    sym (digits_without_room p.out.now p.at p.count p.value (omega arith))

pub returns-else-count-out : goal.returns-else-count-out
returns-else-count-out c =
    let p = c.args in
    sym (digits_without_room p.out.now p.at p.count p.value (omega arith))
