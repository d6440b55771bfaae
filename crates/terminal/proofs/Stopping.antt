-- Reading may stop anywhere past the longest sheet: an input that goes on has broken the form before, at a place that was read, so that it
-- and what was read get the same line.
use mathlib.Core.Path.{◌≡◌, refl, sym, ◌∙◌, ap}
use mathlib.Core.List.{List, ◌++◌}
use mathlib.Core.Logic.{inl, inr, ⊎_elim}
use mathlib.Core.Option.{Option, none, some}
use Prim.Native.Nat.{ℕ, ◌+◌, ◌≤◌, ◌<◌}
use native.Mathlib.Omega.{arith}
use lib.ListN.{length, get_or, take, drop, length-append}
use lib.Seq.{take_all, length-take-le, get_or-take}
use Rattle.laws.proofs.Choice.{is_refused}
use Rattle.laws.proofs.Order.{below_or_from}
use Rattle.digits.proofs.Number.{number_same}
use Rattle.grammar.specs.Grammar.{head, line, sheet_length, sheet_allows, rows_written, first_wrong}
use Rattle.grammar.specs.Meaning.{Formed, EndsAt, WrongByteAt, Breaks, FormMeans}
use Rattle.grammar.proofs.Meaning.{form_means, form_fixed, place_limit}
use Rattle.grammar.proofs.Refusals.{form_wrong}
use Rattle.report.specs.Lines.{refusal_line}
use Rattle.report.specs.Result.{most_words, answer_text}

-- The answer to bytes that break the form is the line that says where.
broken_answer : (bytes : List ℕ) (place : ℕ) → first_wrong bytes ≡ some place → answer_text bytes ≡ refusal_line 1 place
unfolding answer_text
broken_answer bytes place wrong = rw (form_wrong bytes most_words place wrong) (is_refused 1 _ _ (λ zero. omega arith))

module _ (bytes : List ℕ) (most : ℕ) (past : sheet_length 255 < most) (longer : most < length bytes) where
  -- The bytes that were read: as many, each the same, and they announce the same rows.
  read_length : length (take most bytes) ≡ most
  read_length = length-take-le most bytes (omega arith)

  read_byte : (i : ℕ) → i < most → get_or (take most bytes) i 0 ≡ get_or bytes i 0
  read_byte i below = get_or-take most bytes i 0 below

  read_rows : rows_written (take most bytes) ≡ rows_written bytes
  unfolding rows_written sheet_length head line
  read_rows = number_same (take most bytes) bytes 4 4 2 (λ i h. read_byte (4 + i) (omega arith))

  -- What may stand in the one may stand in the other.
  read_allowed : (i : ℕ) → i < most
      → sheet_allows (rows_written (take most bytes)) i (get_or (take most bytes) i 0) ≡ sheet_allows (rows_written bytes) i (get_or bytes i 0)
  read_allowed i below = rw (read_rows, read_byte i below)

  -- Bytes past the longest sheet are no sheet.
  not_formed : Formed bytes → ⊥
  not_formed formed =
      let whole : length bytes ≡ sheet_length (rows_written bytes) = formed.whole in
      let ends : Breaks (take most bytes) most =
      record {
        reached = omega (arith, read_length);
        before = λ i below. read_allowed i below ∙ formed.each i (omega arith);
        here = inl (record { end = sym read_length; short = rw read_rows (omega arith) });
      } in
      omega (arith, place_limit (take most bytes) most ends)

  -- Where they break the form, what was read breaks it.
  read_breaks : (place : ℕ) → Breaks bytes place → Breaks (take most bytes) place
  read_breaks place breaks =
      let early : place ≤ sheet_length 255 = place_limit bytes place breaks in
      record {
        reached = omega (arith, read_length);
        before = λ i below. read_allowed i (omega arith) ∙ breaks.before i below;
        here =
            ⊎_elim (λ (ends : EndsAt bytes place). let end : place ≡ length bytes = ends.end in absurd (omega arith))
            (λ (wrong : WrongByteAt bytes place).
            inr (record { inside = omega (arith, read_length); refused = read_allowed place (omega arith) ∙ wrong.refused }))
            breaks.here;
      }

  -- The answers by where the bytes break the form.
  same_answer : (r : Option ℕ) → first_wrong bytes ≡ r → FormMeans bytes r → answer_text (take most bytes) ≡ answer_text bytes
  same_answer none right formed = absurd (not_formed formed)
  same_answer (some place) wrong breaks =
      broken_answer (take most bytes) place (form_fixed (take most bytes) (some place) (read_breaks place breaks))
      ∙ sym (broken_answer bytes place wrong)

-- The answer to what was read is the answer to the whole input, wherever past the longest sheet reading stops.
pub stopped_answer : (bytes : List ℕ) (most : ℕ) → sheet_length 255 < most → answer_text (take most bytes) ≡ answer_text bytes
stopped_answer bytes most past =
    ⊎_elim (λ (longer : most < length bytes). same_answer bytes most past longer (first_wrong bytes) refl (form_means bytes))
    (λ (all : length bytes ≤ most). ap answer_text (take_all most bytes all))
    (below_or_from most (length bytes))

-- What was read is a whole input too, and its answer is no longer than the output in which it stands.
pub read_fits : (sheet out last : List ℕ) (r : ℕ) → length sheet ≤ 8192
    → ((input : List ℕ) → take 8192 input ≡ sheet → (r ≡ length (answer_text input)) × (last ≡ answer_text input ++ drop r out))
    → r ≤ length last
read_fits sheet out last r few answers =
    let told = answers sheet (take_all 8192 sheet few) in
    omega (arith, told.0, ap length told.1, length-append (answer_text sheet) (drop r out))
