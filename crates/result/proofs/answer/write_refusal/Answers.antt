-- `write_refusal` has one line of nine bytes to write, if there is room for it.
use mathlib.Core.Path.{◌≡◌, sym, ◌∙◌, ap, ap₂}
use mathlib.Core.List.{List, ◌++◌}
use Prim.Native.Nat.{ℕ, ◌≤◌}
use native.Mathlib.Omega.{arith}
use lib.ListN.{length, take, drop}
use lib.Seq.{length-take-le}
use Rattle.laws.specs.Fill.{at_front}
use Rattle.laws.proofs.Fill.{front_left, front_put}
use Rattle.refusals.specs.Refusals.{Refusal, refused}
use Rattle.rows.specs.Checks.{room_refusal}
use Rattle.refusals.specs.Told.{told}
use Rattle.rows.proofs.Checks.{room_enough}
use Rattle.rows.proofs.InOrder.{ended, passed, numbered}
use Rattle.grammar.specs.Sheets.{write_answer}
use Rattle.grammar.specs.Told.{written_said}
use Rattle.grammar.proofs.Refusals.{write_refused, write_accepted}
use Rattle.report.specs.Lines.{refusal_line}
use Rattle.report.proofs.Text.{refusal_length}
use Rattle.result.proofs.answer.write_refusal.Goals as goal
use Rattle.result.proofs.answer.write_refusal.Goals.{In_ok-check_room}

pub returns-in_err-check_room : goal.returns-in_err-check_room
returns-in_err-check_room c =
    let out = c.args.out.now in
    let why = told c.in_err-check_room.field-0.0 in
    let text = refusal_line (told c.args.why).number (told c.args.why).place in
    let same = c.in_err-check_room.ensures in
    record {
      value = ap written_said (ended _ _ c.from_residual.ensures.1) ∙ write_refused why 9 (numbered _) ∙ ap (λ (f : Refusal). write_answer f 9) same;
      out_after = front_left why.number text out (numbered _) ∙ ap (λ (f : Refusal). at_front f.number text out) same;
    }

room : (c : In_ok-check_room) → room_refusal (length c.args.out.now) 9 ≡ 0
room c = passed _ c.in_ok-check_room.ensures

-- The line's part of the output has its length.
enough : (c : In_ok-check_room) → 9 ≤ length c.args.out.now
enough c = room_enough _ 9 (room c)

part : (c : In_ok-check_room) → length (take 9 c.args.out.now) ≡ 9
part c = length-take-le 9 c.args.out.now (enough c)

pub slice_bounds-put_line-end : goal.slice_bounds-put_line-end
slice_bounds-put_line-end c = enough (goal.at.slice_bounds-put_line-end c).In_ok-check_room

pub slice_bounds-put_line-end-2 : goal.slice_bounds-put_line-end-2
slice_bounds-put_line-end-2 c = sym (part (goal.at.slice_bounds-put_line-end-2 c).In_ok-check_room)

pub put_line-requires : goal.put_line-requires
put_line-requires c = rw (part (goal.at.put_line-requires c).In_ok-check_room) (omega arith)

pub returns : goal.returns
unfolding refusal_line
returns c =
    let out = c.args.out.now in
    let why = told c.args.why in
    let none-holds = room (goal.at.returns c).In_ok-check_room in
    let put = rw (part (goal.at.returns c).In_ok-check_room, c.number.ensures, c.place.ensures) at c.put_line.ensures in
    record {
      value = write_accepted (refused (room_refusal (length out) 9) 0) 9 none-holds;
      out_after = ap₂ (λ (l : List ℕ) (n : ℕ). l ++ drop n out) put (sym (refusal_length why.number why.place))
          ∙ front_put (room_refusal (length out) 9) (refusal_line why.number why.place) out none-holds;
    }
