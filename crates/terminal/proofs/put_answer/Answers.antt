-- `put_answer` has room for every answer: none is longer than the result sheet of 64 rows, so none is refused and each stands there whole.
use Rattle.std.proofs.Common.{◌≡◌, ◌≤◌, List, ◌++◌, ℕ, length, drop, sym, ◌∙◌, ap, arith}
use Rattle.grammar.specs.declared.Written.{Written}
use Rattle.rows.proofs.InOrder.{numbered}
use Rattle.report.specs.Lines.{result_head, result_line, result_length}
use Rattle.report.specs.Result.{answer_text, answer_sheet}
use Rattle.report.proofs.Answer.{longest_answer, whole_answer}
use Rattle.terminal.proofs.put_answer.Goals as goal

-- Every answer fits 711 bytes.
fits : (bytes out : List ℕ) → 711 ≤ length out → length (answer_text bytes) ≤ length out
unfolding result_length result_head result_line
fits bytes out room = omega (arith, longest_answer bytes)

-- So what is said carries no refusal, and its length is the answer's.
size : (bytes out : List ℕ) (w : Written) → 711 ≤ length out → w ≡ answer_sheet bytes (length out) → w.length ≡ length (answer_text bytes)
size bytes out w room so = ap (λ (r : Written). r.length) (so ∙ (whole_answer bytes out (fits bytes out room)).0)

accepted : (bytes out : List ℕ) (w : Written) → 711 ≤ length out → w ≡ answer_sheet bytes (length out) → w.refusal ≡ 0
accepted bytes out w room so = ap (λ (r : Written). r.refusal) (so ∙ (whole_answer bytes out (fits bytes out room)).0)

pub returns : goal.returns
returns c =
    let bytes = c.args.bytes.now in
    let out = c.args.out.now in
    let room : 711 ≤ length out = omega arith in
    let whole = size bytes out _ room c.in-Ok.ensures.value in
    record {
      value = whole;
      out_after = c.in-Ok.ensures.out_after
          ∙ (whole_answer bytes out (fits bytes out room)).1
          ∙ ap (λ (n : ℕ). answer_text bytes ++ drop n out) (sym whole);
    }

pub unreachable-requires : goal.unreachable-requires
unreachable-requires c = numbered c.in-Err.field-0 (accepted c.args.bytes.now c.args.out.now _ (omega arith) c.in-Err.ensures.value)
