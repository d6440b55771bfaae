-- However a sheet is cut, its bytes are fed in the same order, one by one; and once the sheet has ended nothing changes any more.
use mathlib.Core.Path.{◌≡◌, refl, sym, ◌∙◌, ap, ap₂}
use mathlib.Core.Bool.{Bool, true, false}
use mathlib.Core.List.{List, [], ◌∷◌, ◌++◌}
use Prim.Native.Nat.{ℕ, suc, ◌+◌, ◌<◌}
use native.Mathlib.Numerals.{add-one}
use native.Mathlib.Omega.{arith}
use borrow.Author.Tests.{ne_eqb, eqb-false}
use lib.Dec.{eqb}
use lib.ListN.{length, get_or, drop}
use lib.Seq.{drop-cons}
use Rattle.laws.specs.Choice.{pick}
use Rattle.laws.proofs.Choice.{pick_no, and_fails}
use Rattle.grammar.specs.declared.Read.{Read}
use Rattle.grammar.specs.Grammar.{sheet_allows}
use Rattle.pieces.specs.declared.Pieces.{Pieces}
use Rattle.std.specs.declared.option.Option.TheVariants.{Some, None}
use Rattle.pieces.specs.Feeding.{announced, reached_with, reached_wrong, words_with, moved_on, counts, fed_byte, fed}
use Rattle.pieces.specs.Ending.{end_found, end_answer, ended, words_after_end, given, ending}
use Rattle.pieces.specs.Pieced.{fed_all, in_a_row, EndsOnce}

-- A piece of no bytes changes nothing, and one piece and then another is both together.
pub fed-none : (s : Pieces) → fed s [] ≡ s
unfolding fed
fed-none s = refl

pub fed_append : (s : Pieces) (piece next : List ℕ) → fed (fed s piece) next ≡ fed s (piece ++ next)
unfolding fed
fed_append s [] next = refl
fed_append s (byte ∷ piece) next = fed_append (fed_byte s byte) piece next

-- The next byte of a list, and the rest behind it.
pub fed_next : (s t : Pieces) (bytes : List ℕ) (i : ℕ) → i < length bytes → fed_byte s (get_or bytes i 0) ≡ t
    → fed s (drop i bytes) ≡ fed t (drop (i + 1) bytes)
unfolding fed
fed_next s t bytes i inside taken =
    ap (fed s) (drop-cons bytes i 0 inside) ∙ rw add-one (ap (λ (u : Pieces). fed u (drop (suc i) bytes)) taken)

-- So pieces of any number and length are all their bytes in a row.
pub fed_all_lem : (s : Pieces) (pieces : List (List ℕ)) → fed_all s pieces ≡ fed s (in_a_row pieces)
unfolding fed_all in_a_row
fed_all_lem s [] = sym (fed-none s)
fed_all_lem s (piece ∷ pieces) = fed_all_lem (fed s piece) pieces ∙ fed_append s piece (in_a_row pieces)

-- So two ways to cut the same bytes leave the same state, and come to the same end.
pub same_state : (s : Pieces) (pieces others : List (List ℕ)) → in_a_row pieces ≡ in_a_row others → fed_all s pieces ≡ fed_all s others
same_state s pieces others same = fed_all_lem s pieces ∙ ap (fed s) same ∙ sym (fed_all_lem s others)

pub same_end : (s : Pieces) (pieces others : List (List ℕ)) (room : ℕ) → in_a_row pieces ≡ in_a_row others
    → ending (fed_all s pieces) room ≡ ending (fed_all s others) room
same_end s pieces others room same = ap (λ (t : Pieces). ending t room) (same_state s pieces others same)

-- Bytes neither end the sheet nor change an answer given.
byte_keeps : (s : Pieces) (byte : ℕ) → ((fed_byte s byte).ended ≡ s.ended) × ((fed_byte s byte).answer ≡ s.answer)
unfolding fed_byte
byte_keeps s byte = split (counts s) (sheet_allows (announced s.reached) s.reached.taken byte)
  where
    split : (counting allowed : Bool)
        → let right = moved_on s (reached_with s.reached byte) (words_with s.reached.taken byte s.words) in
        let wrong = moved_on s (reached_wrong s.reached) s.words in
        let t = pick counting (pick allowed right wrong) s in
        (t.ended ≡ s.ended) × (t.answer ≡ s.answer)
    split true true = (refl, refl)
    split true false = (refl, refl)
    split false allowed = (refl, refl)

pub fed_keeps : (s : Pieces) (bytes : List ℕ) → ((fed s bytes).ended ≡ s.ended) × ((fed s bytes).answer ≡ s.answer)
unfolding fed
fed_keeps s [] = (refl, refl)
fed_keeps s (byte ∷ bytes) =
    let later = fed_keeps (fed_byte s byte) bytes in
    let here = byte_keeps s byte in
    (later.0 ∙ here.0, later.1 ∙ here.1)

pub given_kept : (s : Pieces) (bytes : List ℕ) → given (fed s bytes) ≡ given s
unfolding given
given_kept s bytes =
    let kept = fed_keeps s bytes in
    ap₂ (λ (n : ℕ) (answer : Read). pick (eqb n 0) None (Some answer)) kept.0 kept.1

-- Where bytes no longer count, none changes anything.
byte_uncounted : (s : Pieces) (byte : ℕ) → counts s ≡ false → fed_byte s byte ≡ s
unfolding fed_byte
byte_uncounted s byte over = pick_no _ _ _ over

pub fed_uncounted : (s : Pieces) (bytes : List ℕ) → counts s ≡ false → fed s bytes ≡ s
unfolding fed
fed_uncounted s [] over = refl
fed_uncounted s (byte ∷ bytes) over = ap (λ (t : Pieces). fed t bytes) (byte_uncounted s byte over) ∙ fed_uncounted s bytes over

-- A sheet that has ended.
over : (s : Pieces) → (s.ended ≡ 0 → ⊥) → counts s ≡ false
unfolding counts
over s after = and_fails _ _ (ne_eqb s.ended 0 after)

-- Behind the end a piece changes nothing; a second end, with whatever room, gives the answer already given, and changes neither the state
-- nor the lent words.
pub fed_after : (s : Pieces) (bytes : List ℕ) → (s.ended ≡ 0 → ⊥) → fed s bytes ≡ s
fed_after s bytes after = fed_uncounted s bytes (over s after)

pub end_after : (s : Pieces) (room : ℕ) → (s.ended ≡ 0 → ⊥) → (ended s room ≡ s) × (end_answer s room ≡ s.answer)
unfolding ended end_answer
end_after s room after = (pick_no _ _ _ (ne_eqb s.ended 0 after), pick_no _ _ _ (ne_eqb s.ended 0 after))

pub words_after : (s : Pieces) (lent : List ℕ) → (s.ended ≡ 0 → ⊥) → words_after_end s lent ≡ lent
unfolding words_after_end
words_after s lent after = pick_no _ _ _ (ne_eqb s.ended 0 after)

-- The first end is the end, and its answer is kept.
pub end_kept : (s : Pieces) (room : ℕ) → ((ended s room).ended ≡ 0 → ⊥) × ((ended s room).answer ≡ end_answer s room)
unfolding ended end_answer
end_kept s room = split (eqb s.ended 0) refl
  where
    split : (b : Bool) → eqb s.ended 0 ≡ b
        → let answer = pick b (end_found s.reached s.words room) s.answer in
        let t = pick b (record { reached = s.reached; words = s.words; ended = 1; answer = answer }) s in
        (t.ended ≡ 0 → ⊥) × (t.answer ≡ answer)
    split true before = (λ zero. omega arith, refl)
    split false after = (eqb-false s.ended 0 after, refl)

-- So whatever comes behind an end, it is the same end.
pub ends_once : (s : Pieces) (room : ℕ) (pieces : List (List ℕ)) (lent : List ℕ) → EndsOnce s room pieces lent
ends_once s room pieces lent =
    let kept = end_kept s room in
    let same : fed_all (ended s room) pieces ≡ ended s room = fed_all_lem (ended s room) pieces ∙ fed_after (ended s room) (in_a_row pieces) kept.0 in
    let again = end_after (ended s room) (length lent) kept.0 in
    record {
      state = rw same again.0;
      answer = rw same (again.1 ∙ kept.1);
      words = rw same (words_after (ended s room) lent kept.0);
    }
