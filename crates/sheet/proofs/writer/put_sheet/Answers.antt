-- A whole sheet: line one is put in front, and the rows are put into the part behind it.
use Prim.Native.Nat.{◌+◌, ◌*◌, ◌-◌, ◌≤◌}
use mathlib.Core.Path.{◌≡◌, sym, ◌∙◌, ap}
use mathlib.Core.List.{◌++◌}
use native.Mathlib.Omega.{arith}
use lib.ListN.{length, drop, length-drop}
use lib.Seq.{length-take-le}
use Rattle.laws.proofs.Fill.{front_kept}
use Rattle.rows.specs.Words.{sheet_of}
use Rattle.grammar.specs.Grammar.{head, line, sheet_length}
use Rattle.grammar.specs.Lines.{first_line}
use Rattle.grammar.proofs.Lines.{first_line-length, sheet_put}
use Rattle.sheet.proofs.writer.put_sheet.Goals as goal
use Rattle.sheet.proofs.writer.put_sheet.Goals.{After-put_first_line, Start}

-- Line one has room.
room : (c : Start) → head ≤ length c.args.out.now
unfolding sheet_length
room c = omega (arith, c.requires.1)

pub slice_bounds-put_first_line-end : goal.slice_bounds-put_first_line-end
unfolding head
slice_bounds-put_first_line-end c = room (goal.at.slice_bounds-put_first_line-end c).Start

pub slice_bounds-put_first_line-end-2 : goal.slice_bounds-put_first_line-end-2
unfolding head
slice_bounds-put_first_line-end-2 c = sym (length-take-le head c.args.out.now (room (goal.at.slice_bounds-put_first_line-end-2 c).Start))

pub put_first_line-requires : goal.put_first_line-requires
unfolding head
put_first_line-requires c = length-take-le head c.args.out.now (room (goal.at.put_first_line-requires c).Start)

first-line : (c : After-put_first_line)
    → c.put_first_line.new.out ≡ first_line c.args.processors (sheet_of c.args.words.now).rows
first-line c =
    c.put_first_line.ensures
    ∙ ap (first_line c.args.processors) c.row_count.ensures

-- With line one in front the output has the length that it came with: that of the sheet.
kept : (c : After-put_first_line) → length (c.put_first_line.new.out ++ drop head c.args.out.now) ≡ length c.args.out.now
kept c =
    front_kept c.put_first_line.new.out c.args.out.now head
    (ap length (first-line (goal.at.After-put_first_line c).After-put_first_line) ∙ first_line-length c.args.processors (sheet_of c.args.words.now).rows) (room (goal.at.After-put_first_line c).Start)

pub slice_bounds-put_rows-count : goal.slice_bounds-put_rows-count
unfolding head
slice_bounds-put_rows-count c = omega (arith, kept (goal.at.slice_bounds-put_rows-count c).After-put_first_line, room (goal.at.slice_bounds-put_rows-count c).Start)

pub slice_bounds-put_rows-start : goal.slice_bounds-put_rows-start
unfolding head
slice_bounds-put_rows-start c = omega (arith, kept (goal.at.slice_bounds-put_rows-start c).After-put_first_line, room (goal.at.slice_bounds-put_rows-start c).Start)

pub put_rows-requires : goal.put_rows-requires
unfolding sheet_length head
put_rows-requires c =
    let whole = c.put_first_line.new.out ++ drop head c.args.out.now in
    let full : length whole ≡ head + line * (sheet_of c.args.words.now).rows = kept (goal.at.put_rows-requires c).After-put_first_line ∙ c.requires.1 in
    let rest : length whole - head ≡ line * (sheet_of c.args.words.now).rows = omega arith in
    (c.requires.0, length-take-le (length whole - head) (drop head whole) (rw (length-drop head whole) (omega arith)) ∙ rest)

pub returns : goal.returns
unfolding head
returns c =
    let s = sheet_of c.args.words.now in
    sheet_put s c.args.processors c.put_first_line.new.out _ c.args.out.now
    c.requires.1 (first-line (goal.at.returns c).After-put_first_line)
    c.put_rows.ensures
