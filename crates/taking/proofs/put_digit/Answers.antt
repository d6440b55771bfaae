-- A digit put where it belongs: the word at a spot is the only one with digits there, and a spot at no digit has none.
use mathlib.Core.Path.{◌≡◌, ◌∙◌, ap}
use Prim.Native.Nat.{ℕ, ◌+◌, ◌-◌, ◌/◌, ◌≤◌, ◌<◌}
use native.Mathlib.Omega.{arith}
use lib.ListN.{set}
use Rattle.std.proofs.lemmas.Bool.Decides.{nat_tests}
use Rattle.pieces.proofs.Words.{ItsWord, no_word, one_word}
use Rattle.taking.specs.declared.Spot.{Spot}
use Rattle.taking.proofs.put_digit.Goals as goal

-- The word with digits at a spot.
module _ (spot : Spot) where
  its : 2 ≤ spot.place → spot.place < 20 → ItsWord (spot.first + (spot.place - 2) / 6) spot.taken
  its digit inside =
      let place = spot.in_line in
      let first = spot.in_row in
      record { past = spot.past; digit = omega arith; inside = omega arith; word = omega arith }

  only : (w : ℕ) → ItsWord w spot.taken → (2 ≤ spot.place) × (spot.place < 20) × (w ≡ spot.first + (spot.place - 2) / 6)
  only w facts =
      let place = spot.in_line in
      let first = spot.in_row in
      let digit = facts.digit in
      let inside = facts.inside in
      let word = facts.word in
      (omega arith, omega arith, omega arith)

pub returns-then-word-words : goal.returns-then-word-words
returns-then-word-words c =
    let p = c.args in
    let from : 2 ≤ p.spot.place = grind (arith, nat_tests, c.contains.ensures.value) in
    let upto : p.spot.place < 20 = grind (arith, nat_tests, c.contains.ensures.value) in
    ap (set p.words.now (p.spot.first + (p.spot.place - 2) / 6)) c.digit_more.ensures
    ∙ one_word _ p.spot.taken p.byte p.words.now (omega arith) (its p.spot from upto)

pub returns-else-word-words : goal.returns-else-word-words
returns-else-word-words c =
    let p = c.args in
    no_word p.spot.taken p.byte p.words.now
    (λ w below facts. let is_word = (only p.spot w facts).2 in omega arith)

pub returns-else-contains : goal.returns-else-contains
returns-else-contains c =
    let p = c.args in
    no_word p.spot.taken p.byte p.words.now
    (λ w below facts.
    let its_word = only p.spot w facts in
    let at : 2 ≤ p.spot.place = its_word.0 in
    let before : p.spot.place < 20 = its_word.1 in
    grind (arith, nat_tests, c.contains.ensures.value))
