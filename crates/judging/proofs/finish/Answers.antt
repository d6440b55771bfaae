-- The end's cases in the order of its checks: a wrong byte, a wrong length, too many rows, and the rows that are judged.
use mathlib.Core.Path.{◌≡◌, refl, sym, ◌∙◌}
use mathlib.Core.Option.{none}
use native.Mathlib.Omega.{arith}
use lib.ListN.{length}
use Rattle.refusals.specs.Refusals.{refused}
use Rattle.grammar.specs.Told.{read_said}
use Rattle.pieces.specs.Feeding.{announced}
use Rattle.pieces.specs.Ending.{wrong_reached}
use Rattle.pieces.proofs.Ending.{byte_wrong, length_wrong, none_wrong, end_wrong, end_many, end_refused, end_answered}
use Rattle.judging.proofs.finish.Goals as goal
use Rattle.judging.proofs.finish.Goals.{Else-reached-announced_length}

pub returns-then-reached-ne0 : goal.returns-then-reached-ne0
returns-then-reached-ne0 c =
    let p = c.args in
    let both = end_refused p.reached p.read.now p.words.now (refused 1 p.reached.taken) _ refl
    (end_wrong p.reached p.read.now (length p.words.now) _ (byte_wrong p.reached c.if-reached-ne0.true)) (λ zero. omega arith) in record { value = both.0; words_left = both.1 }

pub returns-then-reached-announced_length : goal.returns-then-reached-announced_length
returns-then-reached-announced_length c =
    let p = c.args in
    let both = end_refused p.reached p.read.now p.words.now (refused 1 p.reached.taken) _ refl
    (end_wrong p.reached p.read.now (length p.words.now) _
    (length_wrong p.reached c.if-reached-ne0.false (λ whole. c.if-reached-announced_length.true (whole ∙ sym c.announced_length.ensures))))
    (λ zero. omega arith) in record { value = both.0; words_left = both.1 }

-- Behind both checks no offset is wrong.
right : (c : Else-reached-announced_length) → wrong_reached c.args.reached ≡ none
right c =
    none_wrong c.args.reached c.if-reached-ne0.false (c.if-reached-announced_length.false ∙ c.announced_length.ensures)

pub returns-then-rows-gt64 : goal.returns-then-rows-gt64
unfolding announced
returns-then-rows-gt64 c =
    let p = c.args in
    let both = end_refused p.reached p.read.now p.words.now (refused 3 0) _ refl
    (end_many p.reached p.read.now (length p.words.now) (right (goal.at.returns-then-rows-gt64 c).Else-reached-announced_length) c.if-rows-gt64.true) (λ zero. omega arith) in record { value = both.0; words_left = both.1 }

pub returns : goal.returns
unfolding announced
returns c =
    let j = c.judge in
    let p = c.args in
    let both = end_answered p.reached p.read.now p.words.now j.new.words (read_said j.result) (omega arith) (right (goal.at.returns c).Else-reached-announced_length) (j.ensures.value, j.ensures.words_left) in record { value = both.0; words_left = both.1 }
