-- A whole result sheet: line one is put in front, and the rows are put into the part behind it.
use Prim.Native.Nat.{ℕ, ◌*◌, ◌-◌, ◌≤◌}
use mathlib.Core.Path.{◌≡◌, refl, sym, ◌∙◌, ap, ap₂}
use mathlib.Core.Bool.{Bool, true, false}
use mathlib.Core.List.{List, ◌++◌}
use mir.Val.{bool_byte}
use lib.ListN.{length, take, drop, length-drop}
use lib.Seq.{length-take-le}
use Rattle.laws.specs.Bits.{bit}
use Rattle.laws.proofs.Fill.{front_kept, front_filled}
use Rattle.report.specs.Lines.{result_head, result_line, result_length, line_text, result_first_line, result_bytes}
use Rattle.report.proofs.Text.{line-length, rows_length}
use native.Mathlib.Omega.{arith}
use Rattle.result.proofs.lines.put_result.Goals as goal
use Rattle.result.proofs.lines.put_result.Goals.{After-put_line, Start}

-- Line one has room.
room : (c : Start) → 7 ≤ length c.args.out.now
unfolding result_length result_head
room c = omega (arith, c.requires.1)

pub slice_bounds-put_line-end : goal.slice_bounds-put_line-end
slice_bounds-put_line-end c = room (goal.at.slice_bounds-put_line-end c).Start

-- The part that is lent for line one has seven bytes.
part : (c : Start) → length (take 7 c.args.out.now) ≡ 7
part c = length-take-le 7 c.args.out.now (room c)

pub slice_bounds-put_line-end-2 : goal.slice_bounds-put_line-end-2
slice_bounds-put_line-end-2 c = sym (part (goal.at.slice_bounds-put_line-end-2 c).Start)

pub put_line-requires : goal.put_line-requires
put_line-requires c = rw (part (goal.at.put_line-requires c).Start) (omega arith)

put : (c : After-put_line) → c.put_line.new.out ≡ line_text 0x11 c.from.result 2 (length c.args.bounds.now)
put c = rw (part (goal.at.After-put_line c).Start) at c.put_line.ensures

size : (c : After-put_line) → length c.put_line.new.out ≡ 7
size c = ap length (put c) ∙ line-length _ _ 2 _

kept : (c : After-put_line) → length (c.put_line.new.out ++ drop 7 c.args.out.now) ≡ length c.args.out.now
kept c = front_kept c.put_line.new.out c.args.out.now 7 (size (goal.at.After-put_line c).After-put_line) (room (goal.at.After-put_line c).Start)

pub slice_bounds-put_rows-count : goal.slice_bounds-put_rows-count
slice_bounds-put_rows-count c = omega (arith, kept (goal.at.slice_bounds-put_rows-count c).After-put_line, room (goal.at.slice_bounds-put_rows-count c).Start)

pub slice_bounds-put_rows-start : goal.slice_bounds-put_rows-start
slice_bounds-put_rows-start c = omega (arith, kept (goal.at.slice_bounds-put_rows-start c).After-put_line, room (goal.at.slice_bounds-put_rows-start c).Start)

pub put_rows-requires : goal.put_rows-requires
unfolding result_length result_head
put_rows-requires c =
    let whole = c.put_line.new.out ++ drop 7 c.args.out.now in
    let rest : length whole - 7 ≡ result_line * length c.args.bounds.now = omega (arith, kept (goal.at.put_rows-requires c).After-put_line, c.requires.1) in (
      c.requires.0,
      length-take-le (length whole - 7) (drop 7 whole) (rw (length-drop 7 whole) (omega arith)) ∙ rest,
    )

-- A yes is written as 1, and a no as 0.
written : (yes : Bool) → bool_byte yes ≡ bit yes
written true = refl
written false = refl

pub returns : goal.returns
unfolding result_length result_head result_bytes result_first_line
returns c =
    let rows = length c.args.bounds.now in
    front_filled c.put_line.new.out c.put_rows.new.out c.args.out.now 7 (result_line * rows) (size (goal.at.returns c).After-put_line)
    (ap length c.put_rows.ensures ∙ rows_length c.args.marks c.args.bounds.now rows) c.requires.1
    ∙ ap₂ (λ (x y : List ℕ). x ++ y) (rw (c.from.ensures, c.all_marked.ensures, written) at (put (goal.at.returns c).After-put_line)) c.put_rows.ensures
