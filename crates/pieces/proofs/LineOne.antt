-- What a piece gives line one, byte by byte: the loop has passed right bytes only, and what is left of the piece goes on from there.
use mathlib.Core.Path.{◌≡◌, sym, ◌∙◌, ap}
use mathlib.Core.Bool.{Bool, true, false}
use mathlib.Core.List.{List}
use mathlib.Core.Logic.{◌⊎◌, ⊎_elim}
use Prim.Native.Nat.{ℕ, ◌+◌, ◌-◌, ◌≤◌, ◌<◌}
use native.Mathlib.Nat.{le_refl}
use native.Mathlib.Omega.{arith}
use lib.ListN.{length, get_or, take, drop, length-drop, drop_of_length-le}
use lib.Seq.{take_all}
use Rattle.grammar.specs.declared.Read.{Read}
use Rattle.grammar.specs.Grammar.{head, line_allows, sheet_allows}
use Rattle.grammar.proofs.Grammar.{sheet_head}
use Rattle.pieces.specs.declared.Reached.{Reached}
use Rattle.pieces.specs.Feeding.{announced, reached_with, fed}
use Rattle.pieces.specs.Inner.{in_hand, Takes, TakesFirst, moved_to}
use Rattle.pieces.proofs.Cut.{fed-none, fed_next}
use Rattle.pieces.proofs.Steps.{stuck, right_step, wrong_step, first_words}

-- So many bytes of a piece passed, all right.
pub record Begun (start : Reached) (bytes : List ℕ) (reached : Reached) (passed : ℕ) : Type 0 where
  pub none_wrong : reached.wrong ≡ 0
  pub count : reached.taken ≡ start.taken + passed
  pub inside : passed ≤ length bytes
  pub goes_on : (words : List ℕ) (answer : Read) → fed (in_hand start words answer) bytes ≡ fed (in_hand reached words answer) (drop passed bytes)

module _ (start : Reached) (bytes : List ℕ) (reached : Reached) (passed : ℕ) (begun : Begun start bytes reached passed) where
  -- Enough of it passed, or all of it.
  pub begun_done : (head ≤ reached.taken) ⊎ (length bytes ≤ passed) → TakesFirst start bytes reached
  begun_done enough =
      let count : reached.taken - start.taken ≡ passed = let whole = begun.count in omega arith in
      record {
        goes_on = rw count begun.goes_on;
        from = let whole = begun.count in omega arith;
        inside = rw count begun.inside;
        no_rest = λ none_wrong early.
            rw count (⊎_elim (λ (past : head ≤ reached.taken). absurd (omega arith)) (λ (all : length bytes ≤ passed). all) enough);
      }

  module _ (inside : passed < length bytes) (first : reached.taken < head) where
    allowed : (test : Bool) → line_allows 0x31 (head - 1) reached.taken (get_or bytes passed 0) ≡ test
        → sheet_allows (announced reached) reached.taken (get_or bytes passed 0) ≡ test
    allowed test is_test = sheet_head (announced reached) reached.taken (get_or bytes passed 0) first ∙ is_test

    -- A right byte more, and a wrong one.
    pub begun_more : line_allows 0x31 (head - 1) reached.taken (get_or bytes passed 0) ≡ true
        → Begun start bytes (reached_with reached (get_or bytes passed 0)) (passed + 1)
    unfolding reached_with
    begun_more right =
        let whole = begun.count in
        record {
          none_wrong = begun.none_wrong;
          count = omega arith;
          inside = omega arith;
          goes_on = λ words answer.
              begun.goes_on words answer
              ∙ fed_next _ _ bytes passed inside
              (right_step reached words answer (get_or bytes passed 0) begun.none_wrong (allowed true right)
              ∙ ap (λ (l : List ℕ). in_hand (reached_with reached (get_or bytes passed 0)) l answer) (sym (first_words reached.taken (get_or bytes passed 0) words first)));
        }

    pub begun_wrong : line_allows 0x31 (head - 1) reached.taken (get_or bytes passed 0) ≡ false
        → TakesFirst start bytes (moved_to reached reached.taken 1)
    begun_wrong wrong =
        let count : reached.taken - start.taken ≡ passed = let whole = begun.count in omega arith in
        let spoilt = moved_to reached reached.taken 1 in
        record {
          goes_on = λ words answer.
              begun.goes_on words answer
              ∙ fed_next _ _ bytes passed inside (wrong_step reached words answer (get_or bytes passed 0) begun.none_wrong (allowed false wrong))
              ∙ stuck spoilt words answer (drop (passed + 1) bytes) (λ zero. omega arith)
              ∙ sym (stuck spoilt words answer (drop (reached.taken - start.taken) bytes) (λ zero. omega arith));
          from = let whole = begun.count in omega arith;
          inside = omega arith;
          no_rest = λ none_wrong early. absurd (omega arith);
        }

-- A piece that line one has, with a wrong byte or to its end, is taken; else its rest is.
module _ (start : Reached) (bytes words : List ℕ) (reached : Reached) (first : TakesFirst start bytes reached) where
  pub first_wrong : (reached.wrong ≡ 0 → ⊥) → Takes start words bytes reached words
  first_wrong wrong answer = first.goes_on words answer ∙ stuck reached words answer _ wrong

  pub first_all : reached.wrong ≡ 0 → reached.taken < head → Takes start words bytes reached words
  first_all none_wrong early answer =
      first.goes_on words answer
      ∙ ap (fed (in_hand reached words answer)) (drop_of_length-le bytes (first.no_rest none_wrong early))
      ∙ fed-none (in_hand reached words answer)

  pub first_then : (last : Reached) (after : List ℕ)
      → let passed = reached.taken - start.taken in
      Takes reached words (take (length bytes - passed) (drop passed bytes)) last after → Takes start words bytes last after
  first_then last after rest answer =
      let passed = reached.taken - start.taken in
      first.goes_on words answer
      ∙ ap (fed (in_hand reached words answer)) (sym (take_all (length bytes - passed) (drop passed bytes) (rw length-drop (le_refl _))))
      ∙ rest answer
