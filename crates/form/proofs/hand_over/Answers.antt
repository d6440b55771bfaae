-- The rows are judged in the words that were read: a refusal leaves the lent words alone, and without one they are copied.
use Prim.Native.Nat.{ℕ, ◌≤◌}
use mathlib.Core.Path.{◌≡◌, refl, sym, ◌∙◌, ap}
use mathlib.Core.List.{List, [], ◌∷◌, ◌++◌}
use lib.ListN.{length, drop}
use lib.Seq.{length-take-le}
use Rattle.laws.proofs.Fill.{front_put, front_left}
use Rattle.refusals.specs.Refusals.{Refusal}
use Rattle.rows.specs.Checks.{processors_refusal, room_refusal, first_held, words_refusal}
use Rattle.refusals.specs.Told.{said}
use Rattle.rows.proofs.InOrder.{ended, numbered}
use Rattle.grammar.specs.Sheets.{between_refusal}
use Rattle.grammar.proofs.Refusals.{passed}
use Rattle.form.proofs.hand_over.Goals as goal
use Rattle.form.proofs.hand_over.Goals.{In_ok-check_words}

-- The checks are those between the rows' shape and their sizes.
checks : (processors room : ℕ) (read : List ℕ)
    → words_refusal read (first_held (processors_refusal processors ∷ room_refusal room (length read) ∷ []))
    ≡ words_refusal read (between_refusal processors room (length read))
unfolding between_refusal
checks processors room read = refl

pub returns-in_err-check_words : goal.returns-in_err-check_words
returns-in_err-check_words c =
    let p = c.args in
    let same = c.in_err-check_words.ensures ∙ checks p.processors (length p.words.now) p.read.now in
    record {
      value = ap said (ended _ _ c.from_residual.ensures.1) ∙ same;
      words_left = front_left _ p.read.now p.words.now (λ none. numbered _ (ap (λ (r : Refusal). r.number) same ∙ none));
    }

-- Where every check passed there is room for the words that were read.
none_holds : (c : In_ok-check_words)
    → (words_refusal c.args.read.now (between_refusal c.args.processors (length c.args.words.now) (length c.args.read.now))).number ≡ 0
none_holds c =
    sym (ap (λ (r : Refusal). r.number) (c.in_ok-check_words.ensures ∙ checks c.args.processors (length c.args.words.now) c.args.read.now))

room : (c : In_ok-check_words) → length c.args.read.now ≤ length c.args.words.now
room c = (passed _ _ c.args.processors (length c.args.words.now) (length c.args.read.now) (none_holds c)).enough

pub slice_bounds-copy_from_slice-end : goal.slice_bounds-copy_from_slice-end
slice_bounds-copy_from_slice-end c = room (goal.at.slice_bounds-copy_from_slice-end c).In_ok-check_words

pub slice_bounds-copy_from_slice-end-2 : goal.slice_bounds-copy_from_slice-end-2
slice_bounds-copy_from_slice-end-2 c = sym (length-take-le _ _ (room (goal.at.slice_bounds-copy_from_slice-end-2 c).In_ok-check_words))

pub copy_from_slice-requires : goal.copy_from_slice-requires
copy_from_slice-requires c = length-take-le _ _ (room (goal.at.copy_from_slice-requires c).In_ok-check_words)

pub returns : goal.returns
returns c =
    let p = c.args in
    let none = none_holds (goal.at.returns c).In_ok-check_words in
    record {
      value = c.in_ok-check_words.ensures ∙ checks p.processors (length p.words.now) p.read.now;
      words_left = ap (λ (front : List ℕ). front ++ drop (length p.read.now) p.words.now) c.copy_from_slice.ensures.after
          ∙ front_put _ p.read.now p.words.now none;
    }
