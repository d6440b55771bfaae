-- Which number a byte is a digit of: at most one word has digits at an offset, and it is found by division.
use mathlib.Core.Path.{◌≡◌, refl, sym, ◌∙◌}
use mathlib.Core.List.{List}
use mathlib.Core.Logic.{⊎_elim}
use Prim.Native.Nat.{ℕ, ◌+◌, ◌-◌, ◌*◌, ◌/◌, ◌%◌, ◌≤◌, ◌<◌}
use native.Mathlib.Decide.{ℕ_discrete}
use native.Mathlib.Omega.{arith}
use borrow.Author.Tests.{le-leb, lt-leb, lt-ltb, le-ltb}
use lib.ListN.{length, get_or, set, length-set}
use lib.Seq.{ext_get_or, get_or-set_same, get_or-set_other}
use Rattle.laws.specs.Fill.{listed}
use Rattle.laws.proofs.Choice.{pick_yes, pick_no, and_both, and_fails, and_holds}
use Rattle.laws.proofs.Order.{below_or_from}
use Rattle.laws.proofs.Fill.{listed-length, listed_at, listed_same, listed_back}
use Rattle.grammar.specs.Grammar.{head, line}
use Rattle.grammar.specs.Lines.{word_offset}
use Rattle.pieces.specs.Feeding.{digit_more, with_byte, words_with}

-- A byte among a number's digits, before them and behind them.
module _ (at count offset byte value : ℕ) where
  pub byte_among : at ≤ offset → offset < at + count → with_byte at count offset byte value ≡ digit_more value byte
  unfolding with_byte
  byte_among from below = pick_yes _ _ _ (and_both _ _ (le-leb at offset from) (lt-ltb offset (at + count) below))

  pub byte_before : offset < at → with_byte at count offset byte value ≡ value
  unfolding with_byte
  byte_before early = pick_no _ _ _ (and_fails _ _ (lt-leb at offset early))

  pub byte_behind : at ≤ offset → at + count ≤ offset → with_byte at count offset byte value ≡ value
  unfolding with_byte
  byte_behind from late = pick_no _ _ _ (and_holds _ _ (le-leb at offset from) ∙ le-ltb offset (at + count) late)

-- Where the digits of word w are.
record Among (w offset : ℕ) : Type 0 where
  from : word_offset w ≤ offset
  below : offset < word_offset w + 6

-- An offset among a word's digits is at a place from 2 to 19 of a row's line, and the word is the row's first, second or third.
pub record ItsWord (w offset : ℕ) : Type 0 where
  pub past : 7 ≤ offset
  pub digit : 2 ≤ (offset - 7) % 21
  pub inside : (offset - 7) % 21 < 20
  pub word : w ≡ 3 * ((offset - 7) / 21) + ((offset - 7) % 21 - 2) / 6

its_word : (w offset : ℕ) → Among w offset → ItsWord w offset
unfolding word_offset head line
its_word w offset among =
    let from : 7 + 21 * (w / 3) + 2 + 6 * (w % 3) ≤ offset = among.from in
    let below : offset < 7 + 21 * (w / 3) + 2 + 6 * (w % 3) + 6 = among.below in
    let row : (offset - 7) / 21 ≡ w / 3 = omega arith in
    record { past = omega arith; digit = omega arith; inside = omega arith; word = omega arith }

word_its : (w offset : ℕ) → ItsWord w offset → Among w offset
unfolding word_offset head line
word_its w offset facts =
    let past : 7 ≤ offset = facts.past in
    let digit : 2 ≤ (offset - 7) % 21 = facts.digit in
    let inside : (offset - 7) % 21 < 20 = facts.inside in
    let word : w ≡ 3 * ((offset - 7) / 21) + ((offset - 7) % 21 - 2) / 6 = facts.word in
    record { from = omega arith; below = omega arith }

-- A word takes the byte if it is among its digits, and stays otherwise.
word_stays : (w offset byte value : ℕ) → (Among w offset → ⊥) → with_byte (word_offset w) 6 offset byte value ≡ value
word_stays w offset byte value outside =
    ⊎_elim (λ (early : offset < word_offset w). byte_before (word_offset w) 6 offset byte value early)
    (λ (from : word_offset w ≤ offset).
    ⊎_elim (λ (below : offset < word_offset w + 6). absurd (outside (record { from = from; below = below })))
    (λ (late : word_offset w + 6 ≤ offset). byte_behind (word_offset w) 6 offset byte value from late)
    (below_or_from offset (word_offset w + 6)))
    (below_or_from offset (word_offset w))

-- A byte that is no digit of a word with a place leaves the words as they are, and one that is changes its word alone.
pub no_word : (offset byte : ℕ) (words : List ℕ) → ((w : ℕ) → w < length words → ItsWord w offset → ⊥) → words ≡ words_with offset byte words
unfolding words_with
no_word offset byte words outside =
    sym
    (listed_same _ (λ w. get_or words w 0) (length words)
    (λ w below. word_stays w offset byte (get_or words w 0) (λ among. outside w below (its_word w offset among)))
    ∙ listed_back words (length words) refl)

pub one_word : (w offset byte : ℕ) (words : List ℕ) → w < length words → ItsWord w offset
    → set words w (digit_more (get_or words w 0) byte) ≡ words_with offset byte words
unfolding words_with
one_word w offset byte words inside its =
    let after = listed (λ v. with_byte (word_offset v) 6 offset byte (get_or words v 0)) (length words) in
    ext_get_or 0 (set words w (digit_more (get_or words w 0) byte)) after (length-set words w _ ∙ sym (listed-length _ (length words)))
    (λ v below.
    let within : v < length words = rw length-set at below in
    each v within (ℕ_discrete v w) ∙ sym (listed_at (λ v. with_byte (word_offset v) 6 offset byte (get_or words v 0)) (length words) v within))
  where
    each : (v : ℕ) → v < length words → Dec (v ≡ w)
        → get_or (set words w (digit_more (get_or words w 0) byte)) v 0 ≡ with_byte (word_offset v) 6 offset byte (get_or words v 0)
    each v below (yes same) =
        let among : Among w offset = word_its w offset its in
        rw same
        (get_or-set_same words w _ 0 inside ∙ sym (byte_among (word_offset w) 6 offset byte (get_or words w 0) among.from among.below))
    each v below (no other) =
        get_or-set_other words w v _ 0 other
        ∙ sym (word_stays v offset byte (get_or words v 0) (λ among. other ((its_word v offset among).word ∙ sym its.word)))
