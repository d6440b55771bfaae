-- `put_line` writes from the front: two numbers of two digits, one of so many, then the line's end.
use mathlib.Core.List.{◌++◌}
use mathlib.Core.Path.{◌≡◌}
use Prim.Native.Nat.{◌+◌, ◌-◌}
use native.Mathlib.Omega.{arith}
use lib.ListN.{length}
use Rattle.digits.specs.Digits.{digits}
use Rattle.digits.proofs.Line.{Begun, not_begun, with_digits_lem, line-ended}
use Rattle.report.specs.Lines.{line_text}
use Rattle.result.proofs.lines.put_line.Goals as goal
use Rattle.result.proofs.lines.put_line.Goals.{After-slice_known-4-1}

-- All but the last byte is written.
begun : (c : After-slice_known-4-1)
    → Begun c.args.out.now
    (digits 2 c.args.kind ++ digits 2 c.args.small ++ digits (length c.args.out.now - 5) c.args.value)
    (length c.args.out.now - 1) c.put_digits-3.new.out
begun c =
    let size = length c.args.out.now in
    let rest : size - 1 - 4 ≡ size - 5 = omega arith in
    let last : 4 + (size - 5) ≡ size - 1 = omega (arith, c.requires) in
    let put =
    with_digits_lem (size - 1 - 4) c.args.value
    (with_digits_lem 2 c.args.small
    (with_digits_lem 2 c.args.kind (not_begun c.args.out.now) (omega (arith, c.requires)) c.put_digits.ensures)
    (omega (arith, c.requires)) c.put_digits-2.ensures)
    (omega (arith, c.requires)) c.put_digits-3.ensures in
    rw (rest, last) at put

-- The line has one byte more.
full : (c : After-slice_known-4-1) → length c.args.out.now ≡ length c.args.out.now - 1 + 1
full c = omega (arith, c.requires)

pub returns : goal.returns
unfolding line_text
returns c = line-ended 0x0A (begun (goal.at.returns c).After-slice_known-4-1) (full (goal.at.returns c).After-slice_known-4-1)
