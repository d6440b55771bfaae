-- The rows are judged in the words that were read: what is handed over, and what is found, is by the same refusal.
use mathlib.Core.Path.{sym, ap}
use lib.ListN.{length}
use Rattle.refusals.specs.Refusals.{Refusal}
use Rattle.rows.proofs.InOrder.{ended, numbered}
use Rattle.grammar.specs.Told.{read_said}
use Rattle.pieces.specs.Ending.{judged_refusal}
use Rattle.pieces.proofs.Judged.{found_accepted, finding_refused}
use Rattle.judging.proofs.judge.Goals as goal

pub returns-in_err-hand_over : goal.returns-in_err-hand_over
unfolding judged_refusal
returns-in_err-hand_over c =
    let p = c.args in
    let both = finding_refused _ _ p.processors p.rows p.read.now p.words.now _ (ap read_said (ended _ _ c.from_residual.ensures.1))
    c.in_err-hand_over.ensures.value (numbered _) in
    record { value = both.0; words_left = c.hand_over.ensures.words_left }

pub returns : goal.returns
unfolding judged_refusal
returns c =
    let p = c.args in
    record {
      value = found_accepted (judged_refusal p.processors p.read.now (length p.words.now)) p.processors p.rows
          (sym (ap (λ (r : Refusal). r.number) c.in_ok-hand_over.ensures.value));
      words_left = c.hand_over.ensures.words_left;
    }
