-- Refusal numbers. Checks are made in number order; the first that holds is given. Number 0 is no refusal, and place is 0 unless stated.
use Rattle.std.specs.Prelude.{◌≡◌, Bool, false, not, ◌&&◌, List, [], ◌∷◌, ℕ, ◌%◌, eqb, leb, ltb, length}
use Rattle.std.proofs.Math.Option.{Option, none, some}
use Rattle.laws.specs.Choice.{pick, unless_refused}
use Rattle.model.specs.Sheet.{Sheet, Allowed, processors_allowed}
use Rattle.refusals.specs.Refusals.{Refusal, refused, not_refused}
use Rattle.rows.specs.Words.{sheet_of, first_outside}

-- 2 where there is no row, 3 where there are more than 64, else 0.
unfoldable pub count_refusal : ℕ → ℕ
count_refusal rows = pick (eqb rows 0) 2 (pick (ltb 64 rows) 3 0)

-- The number of a refusal where a value does not lie from 1 to the most allowed, else 0.
unfoldable pub range_refusal : ℕ → ℕ → ℕ → ℕ
range_refusal value most number = pick (leb 1 value && leb value most) 0 number

-- 4: processors 0 or above 64.
unfoldable pub processors_refusal : ℕ → ℕ
processors_refusal processors = pick (processors_allowed processors) 0 4

-- 5: method above 1.
unfoldable pub method_refusal : ℕ → ℕ
method_refusal method = pick (ltb 1 method) 5 0

-- 7: output space shorter than the answer.
unfoldable pub room_refusal : ℕ → ℕ → ℕ
room_refusal room need = pick (ltb room need) 7 0

-- The first of two checks that holds.
unfoldable pub first_of : ℕ → ℕ → ℕ
first_of first second = pick (eqb first 0) second first

-- The first of several checks that holds, in the order of the list; 0 where none does.
unfoldable pub first_held : List ℕ → ℕ
first_held [] = 0
first_held (check ∷ later) = first_of check (first_held later)

-- 8: a row outside the sizes allowed; the place is the first such row.
unfoldable pub rows_refusal : Option ℕ → Refusal
rows_refusal none = not_refused
rows_refusal (some row) = refused 8 row

-- The checks over a sheet: 2 and 3 by its row count; then the first of the entry's own checks 4 to 7 that holds; then 8.
unfoldable pub sheet_refusal : Sheet → ℕ → Refusal
sheet_refusal s own =
    let number = first_of (count_refusal s.rows) own in
    unless_refused number (refused number 0) (rows_refusal (first_outside s))

-- The checks of an entry on rows, in whatever layout: 2 where the layout is broken; then those over the sheet that the rows say.
unfoldable pub laid_refusal : Bool → Sheet → ℕ → Refusal
laid_refusal broken s own = pick broken (refused 2 0) (sheet_refusal s own)

-- The layout of rows in a word list is broken where the words are not whole rows.
unfoldable pub not_whole : List ℕ → Bool
not_whole words = not (eqb (length words % 3) 0)

-- The checks of an entry on a word list: 2, the word list is empty or not whole rows; 3; the entry's own; 8.
abbrev pub words_refusal : List ℕ → ℕ → Refusal
words_refusal words own = laid_refusal (not_whole words) (sheet_of words) own

-- What number 0 says, and what it takes: a layout that is not broken, a sheet of allowed sizes, and none of the entry's own checks held.
pub record Accepted (broken : Bool) (s : Sheet) (own : ℕ) : Type 0 where
  pub laid : broken ≡ false
  pub sizes : Allowed s
  pub none_held : own ≡ 0
