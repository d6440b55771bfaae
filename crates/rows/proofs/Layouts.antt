-- Layouts: what even columns are, that a list of rows is the same rows in triples and in columns, and what triples taken apart leave.
use mathlib.Core.Path.{◌≡◌, refl, sym, ◌∙◌, ap}
use mathlib.Core.Bool.{Bool, false, not, ◌&&◌}
use mathlib.Core.List.{List, [], ◌∷◌}
use Prim.Native.Nat.{ℕ, ◌+◌, ◌*◌, ◌%◌, ◌≤◌, ◌<◌}
use native.Mathlib.Omega.{arith}
use borrow.Author.Tests.{eq-eqb, eqb-true, not-false}
use lib.Dec.{eqb}
use lib.ListN.{length, get_or, take, length-take}
use Rattle.laws.specs.Fill.{listed, joined}
use Rattle.laws.proofs.Choice.{and_left, and_right, and_both}
use Rattle.laws.proofs.Fill.{listed-length, listed_at, listed_back, joined_length, joined_at}
use Rattle.model.specs.Sheet.{Sheet, triples, columns}
use Rattle.model.specs.Alike.{Alike}
use Rattle.model.specs.Refine.{deadlines}
use Rattle.model.proofs.Alike.{alike_back, alike_then}
use Rattle.refusals.specs.Refusals.{Refusal}
use Rattle.rows.specs.Words.{sheet_of}
use Rattle.rows.specs.Checks.{not_whole}
use Rattle.rows.specs.Layouts.{Lent, in_triples, uneven, in_columns, shape_refusal, SameRows, as_triples, as_columns}
use Rattle.rows.specs.Inner.{Even, Apart, Fronts}
use Rattle.rows.proofs.Checks.{shape_passed}

-- Columns whose lengths do not differ have a word for each row.
pub columns_even : (costs deadlines periods : List ℕ) → uneven costs deadlines periods ≡ false → Even costs deadlines periods
unfolding uneven columns
columns_even costs deadlines periods passed =
    let both = not-false (eqb (length deadlines) (length costs) && eqb (length periods) (length costs)) passed in
    record {
      costs_each = refl;
      deadlines_each = eqb-true _ _ (and_left (eqb (length deadlines) (length costs)) _ both);
      periods_each = eqb-true _ _ (and_right (eqb (length deadlines) (length costs)) _ both);
    }

-- The deadlines, at which all bounds begin, are their column.
pub deadlines_column : (costs deadline_words periods : List ℕ) → Even costs deadline_words periods → deadlines (columns costs deadline_words periods) ≡ deadline_words
unfolding deadlines columns
deadlines_column costs deadline_words periods even = listed_back deadline_words (length costs) even.deadlines_each

-- The same rows one way are the same rows the other way, and over a third layout.
pub same_back : (one other : Lent) → SameRows one other → SameRows other one
same_back one other same = record { layout = sym same.layout; alike = alike_back _ _ same.alike }

pub same_then : (one other third : Lent) → SameRows one other → SameRows other third → SameRows one third
same_then one other third first second =
    record { layout = first.layout ∙ second.layout; alike = alike_then _ _ _ first.alike second.alike }

module _ (s : Sheet) where
  -- The rows of a sheet, in a layout that is not broken.
  abbrev laid_out : Lent
  laid_out = record { broken = false; sheet = s }

  -- In columns they are the same rows: word k of each column is row k's.
  in_columns-same : SameRows laid_out (as_columns s)
  unfolding as_columns uneven columns
  in_columns-same =
      let n = s.rows in
      let even : (f : ℕ → ℕ) → length (listed f n) ≡ length (listed s.cost n) = λ f. listed-length f n ∙ sym (listed-length s.cost n) in
      record {
        layout = sym (ap not (and_both _ _ (eq-eqb _ _ (even s.deadline)) (eq-eqb _ _ (even s.period))));
        alike = record {
          rows = sym (listed-length s.cost n);
          cost = λ k here. sym (listed_at s.cost n k here);
          deadline = λ k here. sym (listed_at s.deadline n k here);
          period = λ k here. sym (listed_at s.period n k here);
        };
      }

  -- In triples too: block k holds row k's words.
  in_triples-same : SameRows laid_out (as_triples s)
  unfolding as_triples not_whole sheet_of triples
  in_triples-same =
      let n = s.rows in
      let row : ℕ → List ℕ = λ k. s.cost k ∷ s.deadline k ∷ s.period k ∷ [] in
      let whole : length (joined row n) ≡ n * 3 = joined_length row 3 n (λ k here. refl) in
      let word : (k i at : ℕ) → k < n → i < 3 → k * 3 + i ≡ at → get_or (joined row n) at 0 ≡ get_or (row k) i 0 =
      λ k i at here inside is_at. ap (λ (a : ℕ). get_or (joined row n) a 0) (sym is_at) ∙ joined_at row 3 n k i (λ j h. refl) here inside in
      record {
        layout = sym (ap not (eq-eqb (length (joined row n) % 3) 0 (omega (arith, whole))));
        alike = record {
          rows = omega (arith, whole);
          cost = λ k here. sym (word k 0 (3 * k) here (omega arith) (omega arith));
          deadline = λ k here. sym (word k 1 (3 * k + 1) here (omega arith) (omega arith));
          period = λ k here. sym (word k 2 (3 * k + 2) here (omega arith) (omega arith));
        };
      }

  -- So a list of rows is the same rows in either layout.
  pub layouts_same : SameRows (as_triples s) (as_columns s)
  layouts_same = same_then _ laid_out _ (same_back laid_out _ in_triples-same) in_columns-same

-- One congruence for every entry: the same rows are answered the same, where alike sheets are refused and answered alike.
pub same_rows_answered : {A : Type 0} (refusal_of : Bool → Sheet → Refusal) (answer_of : Refusal → Sheet → A)
    → ((s t : Sheet) → Alike s t → (broken : Bool) → refusal_of broken s ≡ refusal_of broken t)
    → ((s t : Sheet) → Alike s t → (refusal : Refusal) → answer_of refusal s ≡ answer_of refusal t)
    → (one other : Lent) → SameRows one other
    → answer_of (refusal_of one.broken one.sheet) one.sheet ≡ answer_of (refusal_of other.broken other.sheet) other.sheet
same_rows_answered refusal_of answer_of refused_alike answered_alike one other same =
    let s = one.sheet in
    let t = other.sheet in
    answered_alike s t same.alike (refusal_of one.broken s)
    ∙ ap (λ (r : Refusal). answer_of r t)
    (ap (λ (broken : Bool). refusal_of broken s) same.layout ∙ refused_alike s t same.alike other.broken)

-- Whole triples have columns that are the same rows, and even columns have triples.
pub as_columns_lem : (words : List ℕ) → not_whole words ≡ false → SameRows (in_triples words) (as_columns (sheet_of words))
as_columns_lem words whole = let same = in_columns-same (sheet_of words) in record { layout = whole ∙ same.layout; alike = same.alike }

pub as_triples_lem : (costs deadlines periods : List ℕ) → uneven costs deadlines periods ≡ false
    → SameRows (in_columns costs deadlines periods) (as_triples (columns costs deadlines periods))
as_triples_lem costs deadlines periods even =
    let same = in_triples-same (columns costs deadlines periods) in record { layout = even ∙ same.layout; alike = same.alike }

-- Rows taken apart into columns: each column has a word for each of them.
pub fronts_there : (s : Sheet) (n : ℕ) (costs deadlines periods : List ℕ) → n ≡ s.rows → Apart s costs deadlines periods
    → Fronts n costs deadlines periods
fronts_there s n costs deadlines periods counted apart =
    record {
      costs_there = there s.cost costs apart.costs_front;
      deadlines_there = there s.deadline deadlines apart.deadlines_front;
      periods_there = there s.period periods apart.periods_front;
    }
  where
    there : (f : ℕ → ℕ) (column : List ℕ) → take s.rows column ≡ listed f s.rows → n ≤ length column
    there f column front = omega (arith, length-take s.rows column, ap length front, listed-length f s.rows)

-- And where triples are neither broken nor too many, the fronts of the columns say the same rows.
pub taken_apart : (words : List ℕ) (n : ℕ) (costs deadlines periods : List ℕ) → shape_refusal (in_triples words) ≡ 0 → n ≡ (sheet_of words).rows
    → Apart (sheet_of words) costs deadlines periods → SameRows (in_triples words) (in_columns (take n costs) (take n deadlines) (take n periods))
unfolding as_columns
taken_apart words n costs deadlines periods passed counted apart =
    rw (counted, apart.costs_front, apart.deadlines_front, apart.periods_front) (as_columns_lem words (shape_passed (in_triples words) passed).0)
