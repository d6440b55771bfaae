-- What the state holds of the bytes fed so far: each right byte adds its digit to the number that it is part of, and the first wrong byte
-- is kept as such.
use mathlib.Core.Path.{◌≡◌, refl, sym, ◌∙◌, ap, ap₂}
use mathlib.Core.Bool.{true, false}
use mathlib.Core.List.{List}
use mathlib.Core.Logic.{⊎_elim}
use Prim.Native.Nat.{ℕ, zero, suc, ◌+◌, ◌-◌, ◌≤◌, ◌<◌, min}
use native.Mathlib.Nat.{le_refl, le_step, lt-suc_self}
use native.Mathlib.Numerals.{add-one}
use native.Mathlib.Omega.{arith}
use lib.ListN.{length, get_or, drop, replicate}
use lib.Seq.{drop-length}
use Rattle.laws.specs.Fill.{listed}
use Rattle.laws.proofs.Order.{below_or_from}
use Rattle.laws.proofs.Fill.{listed-length, listed_at, listed_same}
use Rattle.digits.specs.Digits.{number}
use Rattle.digits.proofs.Number.{number_more, number_small}
use Rattle.grammar.specs.Grammar.{head, sheet_allows, rows_written}
use Rattle.grammar.specs.Lines.{word_offset}
use Rattle.grammar.specs.Meaning.{WrongByteAt}
use Rattle.grammar.specs.Sheets.{read_refused}
use Rattle.grammar.proofs.Grammar.{sheet_head}
use Rattle.grammar.proofs.Meaning.{rows_limit}
use Rattle.pieces.specs.declared.Reached.{Reached}
use Rattle.pieces.specs.declared.Pieces.{Pieces}
use Rattle.pieces.specs.Feeding.{fresh, announced, digit_more, with_byte, reached_with, words_with, fed_byte, fed}
use Rattle.pieces.specs.Inner.{in_hand}
use Rattle.pieces.specs.Pieced.{RightBelow, so_far, reached_at, state_at}
use Rattle.pieces.proofs.Cut.{fed-none, fed_next}
use Rattle.pieces.proofs.Steps.{stuck, right_step, wrong_step}
use Rattle.pieces.proofs.Words.{byte_among, byte_before, byte_behind}

-- One byte more of a number: before its digits nothing, among them a digit more, behind them nothing.
digit_more_lem : (bytes : List ℕ) (at count k : ℕ) → count ≤ 6
    → with_byte at count k (get_or bytes k 0) (so_far bytes at count k) ≡ so_far bytes at count (k + 1)
unfolding digit_more so_far
digit_more_lem bytes at count k few =
    ⊎_elim
    (λ (early : k < at).
    let same : min count (k - at) ≡ min count (k + 1 - at) = omega arith in
    byte_before at count k _ _ early ∙ ap (number bytes at) same)
    (λ (from : at ≤ k).
    ⊎_elim
    (λ (among : k < at + count).
    let passed : min count (k - at) ≡ k - at = omega arith in
    let one_more : min count (k + 1 - at) ≡ k - at + 1 = omega arith in
    let here : at + (k - at) ≡ k = omega arith in
    byte_among at count k _ _ from among
    ∙ rw (passed, one_more, number_more bytes at (k - at), here) (omega (arith, number_small bytes at (k - at) (omega arith))))
    (λ (behind : at + count ≤ k).
    let same : min count (k - at) ≡ min count (k + 1 - at) = omega arith in
    byte_behind at count k _ _ from behind ∙ ap (number bytes at) same)
    (below_or_from k (at + count)))
    (below_or_from k at)

-- The words of the rows take it so, each by itself.
words_more : (bytes : List ℕ) (k : ℕ)
    → words_with k (get_or bytes k 0) (listed (λ w. so_far bytes (word_offset w) 6 k) 192) ≡ listed (λ w. so_far bytes (word_offset w) 6 (k + 1)) 192
unfolding words_with
words_more bytes k =
    rw (listed-length (λ w. so_far bytes (word_offset w) 6 k) 192)
    (listed_same _ _ 192
    (λ w below.
    ap (with_byte (word_offset w) 6 k (get_or bytes k 0)) (listed_at (λ w. so_far bytes (word_offset w) 6 k) 192 w below)
    ∙ digit_more_lem bytes (word_offset w) 6 k (omega arith)))

-- The numbers of line one do.
reached_more : (bytes : List ℕ) (k : ℕ) → reached_with (reached_at bytes k 0) (get_or bytes k 0) ≡ reached_at bytes (k + 1) 0
unfolding reached_at reached_with
reached_more bytes k =
    ap₂ (λ (processors rows : ℕ). record { taken = k + 1; wrong = 0; processors = processors; rows = rows })
    (digit_more_lem bytes 2 2 k (omega arith)) (digit_more_lem bytes 4 2 k (omega arith))

-- Before the first byte every number is 0.
none_so_far : (bytes : List ℕ) (at count : ℕ) → so_far bytes at count 0 ≡ 0
unfolding so_far number
none_so_far bytes at count = let none : min count (0 - at) ≡ 0 = omega arith in rw none

zeros : listed (λ w. 0) 192 ≡ replicate 192 0
unfolding listed
zeros = refl

start : (bytes : List ℕ) → fresh ≡ state_at bytes 0 0
unfolding fresh state_at reached_at
start bytes =
    rw (none_so_far bytes 2 2, none_so_far bytes 4 2, listed_same _ (λ w. 0) 192 (λ w below. none_so_far bytes (word_offset w) 6), zeros)

-- Past its digits a number is whole.
pub whole_number : (bytes : List ℕ) (at count k : ℕ) → at + count ≤ k → so_far bytes at count k ≡ number bytes at count
unfolding so_far
whole_number bytes at count k past = let all : min count (k - at) ≡ count = omega arith in ap (number bytes at) all

-- Past line one the state has the rows that the bytes announce.
pub rows_announced : (bytes : List ℕ) (k wrong : ℕ) → head ≤ k
    → RightBelow bytes k → announced (reached_at bytes k wrong) ≡ rows_written bytes
unfolding announced reached_at rows_written head
rows_announced bytes k wrong past right =
    let limit : number bytes 4 2 ≤ 255 = rows_limit bytes (λ i below. right i (omega arith)) in
    rw (whole_number bytes 4 2 k (omega arith)) (omega arith)

module _ (bytes : List ℕ) (k : ℕ) (right : RightBelow bytes k) where
  -- So a byte may come next where it may stand in the sheet.
  allowed_next : (byte : ℕ) → sheet_allows (announced (reached_at bytes k 0)) k byte ≡ sheet_allows (rows_written bytes) k byte
  allowed_next byte =
      ⊎_elim
      (λ (first : k < head). sheet_head (announced (reached_at bytes k 0)) k byte first ∙ sym (sheet_head (rows_written bytes) k byte first))
      (λ (past : head ≤ k). ap (λ (rows : ℕ). sheet_allows rows k byte) (rows_announced bytes k 0 past right))
      (below_or_from k head)

  -- A right byte is taken, and a wrong one kept.
  right_byte : sheet_allows (rows_written bytes) k (get_or bytes k 0) ≡ true → fed_byte (state_at bytes k 0) (get_or bytes k 0) ≡ state_at bytes (k + 1) 0
  unfolding state_at reached_at
  right_byte allowed =
      right_step (reached_at bytes k 0) _ (read_refused 0 0) (get_or bytes k 0) refl (allowed_next (get_or bytes k 0) ∙ allowed)
      ∙ ap₂ (λ (reached : Reached) (words : List ℕ). in_hand reached words (read_refused 0 0)) (reached_more bytes k) (words_more bytes k)

  wrong_byte : sheet_allows (rows_written bytes) k (get_or bytes k 0) ≡ false → fed_byte (state_at bytes k 0) (get_or bytes k 0) ≡ state_at bytes k 1
  unfolding state_at reached_at
  wrong_byte refused = wrong_step (reached_at bytes k 0) _ (read_refused 0 0) (get_or bytes k 0) refl (allowed_next (get_or bytes k 0) ∙ refused)

-- So up to the first wrong byte the state holds what was taken.
right_bytes : (bytes : List ℕ) (k : ℕ) → k ≤ length bytes → RightBelow bytes k
    → fed fresh bytes ≡ fed (state_at bytes k 0) (drop k bytes)
right_bytes bytes zero inside right = ap (λ (s : Pieces). fed s bytes) (start bytes)
right_bytes bytes (suc k) inside right =
    right_bytes bytes k (omega arith) (λ i below. right i (le_step below))
    ∙ rw add-one at
    (fed_next (state_at bytes k 0) (state_at bytes (k + 1) 0) bytes k inside
    (right_byte bytes k (λ i below. right i (le_step below)) (right k (lt-suc_self k))))

pub held_right : (bytes : List ℕ) → RightBelow bytes (length bytes)
    → fed fresh bytes ≡ state_at bytes (length bytes) 0
held_right bytes right =
    right_bytes bytes (length bytes) (le_refl _) right
    ∙ ap (fed (state_at bytes (length bytes) 0)) (drop-length bytes)
    ∙ fed-none (state_at bytes (length bytes) 0)

pub held_wrong : (bytes : List ℕ) (place : ℕ) → WrongByteAt bytes place
    → RightBelow bytes place → fed fresh bytes ≡ state_at bytes place 1
unfolding state_at reached_at
held_wrong bytes place wrong right =
    let inside : place < length bytes = wrong.inside in
    right_bytes bytes place (omega arith) right
    ∙ fed_next (state_at bytes place 0) (state_at bytes place 1) bytes place inside (wrong_byte bytes place right wrong.refused)
    ∙ stuck (reached_at bytes place 1) _ (read_refused 0 0) (drop (place + 1) bytes) (λ zero. omega arith)
