-- A row's line is written from its front: its kind, three numbers of six digits, then its end.
use mathlib.Core.List.{◌++◌}
use Prim.Native.Nat.{◌-◌}
use native.Mathlib.Omega.{arith}
use Rattle.digits.specs.Digits.{digits}
use Rattle.digits.proofs.Line.{Begun, not_begun, with_digits_lem, end_inside, line-ended}
use Rattle.grammar.specs.Grammar.{line}
use Rattle.grammar.specs.Lines.{row_line}
use Rattle.sheet.proofs.writer.put_row_line.Goals as goal
use Rattle.sheet.proofs.writer.put_row_line.Goals.{After-slice_known-5-1}

-- All but the last byte is written.
begun : (c : After-slice_known-5-1)
    → Begun c.args.out.now
    (digits 2 0x02 ++ digits 6 c.args.cost ++ digits 6 c.args.deadline ++ digits 6 c.args.period)
    (line - 1) c.put_digits-4.new.out
unfolding line
begun c =
    with_digits_lem 6 c.args.period
    (with_digits_lem 6 c.args.deadline
    (with_digits_lem 6 c.args.cost
    (with_digits_lem 2 0x02 (not_begun c.args.out.now) (omega (arith, c.requires)) c.put_digits.ensures)
    (omega (arith, c.requires)) c.put_digits-2.ensures)
    (omega (arith, c.requires)) c.put_digits-3.ensures)
    (omega (arith, c.requires)) c.put_digits-4.ensures

pub bounds-out-20 : goal.bounds-out-20
unfolding line
bounds-out-20 c = end_inside (begun (goal.at.bounds-out-20 c).After-slice_known-5-1) c.requires

pub returns : goal.returns
unfolding row_line line
returns c = line-ended 0x0A (begun (goal.at.returns c).After-slice_known-5-1) c.requires
