-- Line one is written from its front: three numbers of two digits, then its end.
use mathlib.Core.List.{◌++◌}
use Prim.Native.Nat.{◌-◌}
use native.Mathlib.Omega.{arith}
use Rattle.digits.specs.Digits.{digits}
use Rattle.digits.proofs.Line.{Begun, not_begun, with_digits_lem, end_inside, line-ended}
use Rattle.grammar.specs.Grammar.{head}
use Rattle.grammar.specs.Lines.{first_line}
use Rattle.sheet.proofs.writer.put_first_line.Goals as goal
use Rattle.sheet.proofs.writer.put_first_line.Goals.{After-slice_known-4-1}

-- All but the last byte is written.
begun : (c : After-slice_known-4-1)
    → Begun c.args.out.now
    (digits 2 0x01 ++ digits 2 c.args.processors ++ digits 2 c.args.rows)
    (head - 1) c.put_digits-3.new.out
unfolding head
begun c =
    with_digits_lem 2 c.args.rows
    (with_digits_lem 2 c.args.processors
    (with_digits_lem 2 0x01 (not_begun c.args.out.now) (omega (arith, c.requires)) c.put_digits.ensures)
    (omega (arith, c.requires)) c.put_digits-2.ensures)
    (omega (arith, c.requires)) c.put_digits-3.ensures

pub bounds-out-6 : goal.bounds-out-6
unfolding head
bounds-out-6 c = end_inside (begun (goal.at.bounds-out-6 c).After-slice_known-4-1) c.requires

pub returns : goal.returns
unfolding first_line head
returns c = line-ended 0x0A (begun (goal.at.returns c).After-slice_known-4-1) c.requires
