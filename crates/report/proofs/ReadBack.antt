-- A result sheet read back: two digits hold every count and mark, and six hold every bound.
use mathlib.Core.Path.{◌≡◌, ◌∙◌, ap}
use mathlib.Core.Bool.{Bool, true, false}
use mathlib.Core.List.{List, [], ◌∷◌, ◌++◌, append_assoc}
use Prim.Native.Nat.{ℕ, ◌+◌, ◌*◌, ◌^◌, ◌≤◌, ◌<◌}
use native.Mathlib.Omega.{arith}
use lib.ListN.{get_or, length-append, get_or-append}
use lib.Seq.{get_or-append-add}
use Rattle.laws.specs.Fill.{joined}
use Rattle.laws.specs.Bits.{bit, bit_at, is_set, every}
use Rattle.laws.proofs.Fill.{joined_at}
use Rattle.laws.proofs.Cuts.{get_d_between}
use Rattle.model.specs.Sheet.{Sheet, Allowed}
use Rattle.model.specs.Refine.{Ask, marked, marks, at_once}
use Rattle.model.proofs.Sheet.{few_rows}
use Rattle.model.proofs.Engines.{marks_say, accepted_by_marks}
use Rattle.digits.specs.Digits.{number, digits}
use Rattle.digits.proofs.Number.{digits-length, number_of_digits}
use Rattle.refinement.specs.Refinement.{ask_of, final_bounds, final_marks, handed}
use Rattle.refinement.proofs.Refinement.{handed_whole}
use Rattle.refinement.proofs.Demands.{final_small}
use Rattle.report.specs.Lines.{result_head, result_line, line_text, result_first_line, result_row_line, result_line_of, result_bytes}
use Rattle.report.specs.Result.{result_of, SaysBack}
use Rattle.report.proofs.Text.{first_line-length, row_line-length}

-- A line that stands at a place of longer bytes: its small number and its value are read back.
module _ (bytes : List ℕ) (at kind small count value : ℕ)
    (stands : (i : ℕ) → i < 5 + count → get_or bytes (at + i) 0 ≡ get_or (line_text kind small count value) i 0) where
  small_back : small < 16 ^ 2 → number bytes (at + 2) 2 ≡ small
  unfolding line_text
  small_back few =
      number_of_digits bytes (at + 2) 2 small few
      (λ i h.
      ap (λ (x : ℕ). get_or bytes x 0) (omega arith)
      ∙ stands (2 + i) (omega arith)
      ∙ ap (λ (l : List ℕ). get_or l (2 + i) 0) (append_assoc (digits 2 kind ++ digits 2 small) (digits count value) (0x0A ∷ []))
      ∙ get_d_between (digits 2 kind) (digits 2 small) (digits count value ++ (0x0A ∷ [])) 2 i (digits-length 2 kind) (rw digits-length h))

  value_back : value < 16 ^ count → number bytes (at + 4) count ≡ value
  unfolding line_text
  value_back few =
      number_of_digits bytes (at + 4) count value few
      (λ i h.
      ap (λ (x : ℕ). get_or bytes x 0) (omega arith)
      ∙ stands (4 + i) (omega arith)
      ∙ get_d_between (digits 2 kind ++ digits 2 small) (digits count value) (0x0A ∷ []) 4 i
      (length-append (digits 2 kind) (digits 2 small) ∙ omega (arith, digits-length 2 kind, digits-length 2 small)) (rw digits-length h))

-- A bit has two digits to spare.
bit_small : (b : Bool) → bit b < 16 ^ 2
bit_small true = omega arith
bit_small false = omega arith

module _ (rows marks : ℕ) (words : List ℕ) where
  -- Line one as it stands in front.
  abbrev front : List ℕ
  front = result_first_line (bit (every (is_set marks) rows)) rows

  -- Where line one and the line of row k stand.
  in_first_line : (i : ℕ) → i < 7 → get_or (result_bytes rows marks words) (0 + i) 0 ≡ get_or front i 0
  unfolding result_bytes result_head
  in_first_line i inside =
      ap (λ (x : ℕ). get_or (front ++ joined (result_line_of marks words) rows) x 0) (omega arith)
      ∙ get_or-append front (joined (result_line_of marks words) rows) 0 i (rw (first_line-length (bit (every (is_set marks) rows)) rows) inside)

  in_row : (k i : ℕ) → k < rows → i < 11
      → get_or (result_bytes rows marks words) (result_head + k * result_line + i) 0 ≡ get_or (result_line_of marks words k) i 0
  unfolding result_bytes result_head result_line
  in_row k i here inside =
      ap (λ (x : ℕ). get_or (result_bytes rows marks words) x 0) (omega (arith, first_line-length (bit (every (is_set marks) rows)) rows))
      ∙ get_or-append-add front (joined (result_line_of marks words) rows) (k * 11 + i) 0
      ∙ joined_at (result_line_of marks words) 11 rows k i (λ j h. row_line-length marks words j) here inside

-- What it says is what was put in it.
pub result_back : (s : Sheet) (ask : Ask) (R words : List ℕ) → s.rows ≤ 64 → ((k : ℕ) → k < s.rows → get_or words k 0 ≤ 1_000_000)
    → SaysBack s ask R words (result_bytes s.rows (marks s ask R) words)
unfolding result_first_line result_line_of result_row_line
result_back s ask R words few small =
    let bytes = result_bytes s.rows (marks s ask R) words in
    let all = every (is_set (marks s ask R)) s.rows in
    let first = in_first_line s.rows (marks s ask R) words in
    let row = in_row s.rows (marks s ask R) words in
    let mark : (k : ℕ) → k < s.rows → bit_at (marks s ask R) k ≡ bit (marked ask R k) = (marks_say s ask R).each in
    record {
      accepted_back = small_back bytes 0 0x11 (bit all) 2 s.rows first (bit_small all) ∙ ap bit (accepted_by_marks s ask R);
      count_back = value_back bytes 0 0x11 (bit all) 2 s.rows first (omega arith);
      mark_back = λ k h.
          small_back bytes (result_head + k * result_line) 0x12 (bit_at (marks s ask R) k) 6 (get_or words k 0) (λ i j. row k i h j)
          (rw (mark k h) (bit_small (marked ask R k))) ∙ mark k h;
      bound_back = λ k h.
          value_back bytes (result_head + k * result_line) 0x12 (bit_at (marks s ask R) k) 6 (get_or words k 0) (λ i j. row k i h j)
          (omega (arith, small k h));
    }

-- Of the sheet that the entry writes.
pub written_back : (s : Sheet) (m method : ℕ) → Allowed s
    → SaysBack s (ask_of s m method) (final_bounds at_once s m method) (handed at_once s m method) (result_of s m method)
unfolding result_of final_marks
written_back s m method sizes =
    result_back s (ask_of s m method) (final_bounds at_once s m method) (handed at_once s m method) (few_rows s sizes)
    (λ k h. rw (← handed_whole at_once s m method) (final_small s m method sizes k h))
