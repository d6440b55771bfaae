-- The checks are made first; a sheet that passes them has room, and is written into exactly its part of the output.
use Prim.Native.Nat.{ℕ, ◌/◌}
use mathlib.Core.Path.{◌≡◌, sym, ◌∙◌, ap, ap₂}
use mathlib.Core.List.{List, [], ◌∷◌, ◌++◌}
use native.Mathlib.Omega.{arith}
use lib.ListN.{length, take, drop}
use lib.Seq.{length-take-le}
use Rattle.laws.proofs.Fill.{front_put}
use Rattle.model.specs.Sheet.{triples}
use Rattle.model.proofs.Sheet.{few_rows}
use Rattle.refusals.specs.Refusals.{Refusal}
use Rattle.rows.specs.Words.{sheet_of}
use Rattle.rows.specs.Checks.{processors_refusal, room_refusal, first_held, words_refusal}
use Rattle.rows.proofs.InOrder.{ended, numbered}
use Rattle.grammar.specs.Grammar.{head, line, sheet_length}
use Rattle.grammar.specs.Lines.{sheet_bytes}
use Rattle.grammar.specs.Meaning.{Writable}
use Rattle.grammar.specs.Sheets.{between_refusal, write_refusal, write_sheet, bytes_after}
use Rattle.grammar.specs.Told.{written_said}
use Rattle.grammar.proofs.Lines.{sheet_bytes_length}
use Rattle.grammar.proofs.Refusals.{passed, writing_refused, write_accepted}
use Rattle.sheet.proofs.write_sheet.Goals as goal
use Rattle.sheet.proofs.write_sheet.Goals.{After-sheet_length-length, In_ok-check_words}

pub sheet_length-length-requires : goal.sheet_length-length-requires
unfolding sheet_length head line sheet_of triples
sheet_length-length-requires c =
    let rows : c.row_count.result ≡ length c.args.words.now / 3 = c.row_count.ensures in
    omega (arith, c.well_formed.0.1)

-- The sheet's length, and the checks: the writer's.
size : (c : After-sheet_length-length) → c.sheet_length-length.result ≡ sheet_length (sheet_of c.args.words.now).rows
size c = c.sheet_length-length.ensures ∙ ap sheet_length c.row_count.ensures

checks : (c : After-sheet_length-length)
    → let p = c.args in
    let room = length p.out.now in
    words_refusal p.words.now (first_held (processors_refusal p.processors ∷ room_refusal room c.sheet_length-length.result ∷ []))
    ≡ write_refusal p.words.now p.processors room
unfolding write_refusal between_refusal
checks c =
    let p = c.args in
    ap (λ (need : ℕ). words_refusal p.words.now (between_refusal p.processors (length p.out.now) need)) (size c)

pub returns-in_err-check_words : goal.returns-in_err-check_words
unfolding write_sheet bytes_after
returns-in_err-check_words c =
    let p = c.args in
    let both = writing_refused _ _ (sheet_length (sheet_of p.words.now).rows) (sheet_bytes (sheet_of p.words.now) p.processors) p.out.now _
    (ap written_said (ended _ _ c.from_residual.ensures.1))
    (c.in_err-check_words.ensures ∙ checks (goal.at.returns-in_err-check_words c).After-sheet_length-length) (numbered _) in record { value = both.0; out_after = both.1 }

-- Where every check passed the sheet may be written.
none-holds : (c : In_ok-check_words) → (write_refusal c.args.words.now c.args.processors (length c.args.out.now)).number ≡ 0
none-holds c = sym (ap (λ (r : Refusal). r.number) (c.in_ok-check_words.ensures ∙ checks (goal.at.In_ok-check_words c).After-sheet_length-length))

checked : (c : In_ok-check_words)
    → let p = c.args in
    Writable p.words.now p.processors (length p.out.now)
unfolding write_refusal
checked c =
    let p = c.args in
    passed _ _ p.processors (length p.out.now) (sheet_length (sheet_of p.words.now).rows) (none-holds c)

pub slice_bounds-put_sheet-end : goal.slice_bounds-put_sheet-end
slice_bounds-put_sheet-end c = rw (size (goal.at.slice_bounds-put_sheet-end c).After-sheet_length-length) (checked (goal.at.slice_bounds-put_sheet-end c).In_ok-check_words).enough

-- So its part of the output has exactly its length.
part : (c : In_ok-check_words)
    → length (take c.sheet_length-length.result c.args.out.now) ≡ c.sheet_length-length.result
part c =
    length-take-le c.sheet_length-length.result c.args.out.now (rw (size (goal.at.In_ok-check_words c).After-sheet_length-length) (checked c).enough)

pub slice_bounds-put_sheet-end-2 : goal.slice_bounds-put_sheet-end-2
slice_bounds-put_sheet-end-2 c = sym (part (goal.at.slice_bounds-put_sheet-end-2 c).In_ok-check_words)

pub put_sheet-requires : goal.put_sheet-requires
put_sheet-requires c =
    let at = goal.at.put_sheet-requires c in
    (few_rows _ (checked at.In_ok-check_words).sizes, part at.In_ok-check_words ∙ size at.After-sheet_length-length)

pub overflow_cast-result : goal.overflow_cast-result
unfolding sheet_length head line
overflow_cast-result c =
    let at = goal.at.overflow_cast-result c in
    omega (arith, size at.After-sheet_length-length, few_rows _ (checked at.In_ok-check_words).sizes)

pub returns : goal.returns
unfolding write_sheet bytes_after
returns c =
    let p = c.args in
    let at = goal.at.returns c in
    let sheet = sheet_bytes (sheet_of p.words.now) p.processors in
    let refusal = write_refusal p.words.now p.processors (length p.out.now) in
    let accepted = none-holds at.In_ok-check_words in record {
      value = ap (λ (n : ℕ). record { refusal = 0; place = 0; length = n }) (size at.After-sheet_length-length)
          ∙ write_accepted refusal (sheet_length (sheet_of p.words.now).rows) accepted;
      out_after = ap₂ (λ (l : List ℕ) (n : ℕ). l ++ drop n p.out.now) c.put_sheet.ensures
          (size at.After-sheet_length-length ∙ sym (sheet_bytes_length (sheet_of p.words.now) p.processors))
          ∙ front_put refusal.number sheet p.out.now accepted;
    }
