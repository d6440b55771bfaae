-- `answer_sheet` reads into 192 words, which every allowed sheet fits, and writes the line or the result that the answer is.
use mathlib.Core.Path.{refl, sym, ◌∙◌, ap}
use mathlib.Core.List.{List}
use Prim.Native.Nat.{ℕ, ◌*◌, ◌≤◌}
use lib.ListN.{replicate, length, take}
use lib.Seq.{length-take-le}
use native.Mathlib.Omega.{arith}
use Rattle.rows.proofs.InOrder.{numbered}
use Rattle.report.specs.Result.{write_result, result_after}
use Rattle.report.proofs.Answer.{refused-answer, words_room, accepted-answer}
use Rattle.result.proofs.answer.answer_sheet.Goals as goal
use Rattle.result.proofs.answer.answer_sheet.Goals.{In-Ok}

pub returns-in-Err : goal.returns-in-Err
returns-in-Err c =
    let so = refused-answer c.args.bytes.now c.args.out.now _ c.in-Err.ensures.value (numbered _) in
    record { value = c.write_refusal.ensures.value ∙ so.0; out_after = c.write_refusal.ensures.out_after ∙ so.1 }

-- The sheet's words are at the front of the 192.
room : (c : In-Ok) → 3 * c.in-Ok.header.rows ≤ length c.read_sheet.new.words
room c = omega (arith, words_room c.args.bytes.now (replicate 192 0) refl _ c.in-Ok.ensures.value refl)

pub slice_bounds-words-end : goal.slice_bounds-words-end
slice_bounds-words-end c = room (goal.at.slice_bounds-words-end c).In-Ok

pub slice_bounds-write_result-end : goal.slice_bounds-write_result-end
slice_bounds-write_result-end c = sym (length-take-le (3 * c.in-Ok.header.rows) c.read_sheet.new.words (room (goal.at.slice_bounds-write_result-end c).In-Ok))

pub returns-in-Ok : goal.returns-in-Ok
returns-in-Ok c =
    let header = c.in-Ok.header in
    let so = accepted-answer c.args.bytes.now (replicate 192 0) refl _ c.in-Ok.ensures.value refl c.args.out.now in
    let w = c.write_result in
    record {
      value = w.ensures.value
          ∙ ap (λ (l : List ℕ). write_result (take (3 * header.rows) l) header.processors 1 (length c.args.out.now)) c.in-Ok.ensures.words_left
          ∙ so.0;
      out_after = w.ensures.out_after
          ∙ ap (λ (l : List ℕ). result_after (take (3 * header.rows) l) header.processors 1 c.args.out.now) c.in-Ok.ensures.words_left
          ∙ so.1;
    }
