-- `answer_read` answers what was read; where reading stopped past the longest sheet, that is the answer to the whole input.
use Rattle.std.proofs.Common.{◌≡◌, List, ◌++◌, ℕ, ◌<◌, length, drop, sym, ◌∙◌, ap, arith}
use Rattle.grammar.specs.Grammar.{head, line, sheet_length}
use Rattle.report.specs.Result.{answer_text}
use Rattle.terminal.proofs.Stopping.{stopped_answer}
use Rattle.terminal.proofs.answer_read.Goals as goal

-- The longest sheet is shorter than what is read.
past : sheet_length 255 < 8192
unfolding sheet_length head line
past = omega arith

pub returns : goal.returns
returns c input begins =
    let text : answer_text c.args.sheet.now ≡ answer_text input = ap answer_text (sym begins) ∙ stopped_answer input 8192 past in (
      c.put_answer.ensures.value ∙ ap length text,
      c.put_answer.ensures.out_after ∙ ap (λ (l : List ℕ). l ++ drop c.put_answer.result c.args.out.now) text,
    )
