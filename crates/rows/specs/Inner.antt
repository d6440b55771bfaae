-- What only inner functions and proofs cite: no user need believe it.
use Rattle.std.specs.Prelude.{◌≡◌, List, [], ◌∷◌, ℕ, ◌*◌, ◌≤◌, length, take}
use Rattle.laws.specs.Fill.{listed}
use Rattle.model.specs.Sheet.{Sheet, columns}
use Rattle.rows.specs.Words.{sheet_of}

-- Words laid out as rows: three for each row of the sheet that they say.
pub record Laid (words : List ℕ) : Type 0 where
  pub whole : length words ≡ 3 * (sheet_of words).rows

-- Columns laid out as rows: each has a word for each row of the sheet that they say.
pub record Even (costs deadlines periods : List ℕ) : Type 0 where
  pub costs_each : length costs ≡ (columns costs deadlines periods).rows
  pub deadlines_each : length deadlines ≡ (columns costs deadlines periods).rows
  pub periods_each : length periods ≡ (columns costs deadlines periods).rows

-- The rows of a sheet taken apart into the front of three columns, whatever stands behind.
pub record Apart (s : Sheet) (costs deadlines periods : List ℕ) : Type 0 where
  pub costs_front : take s.rows costs ≡ listed s.cost s.rows
  pub deadlines_front : take s.rows deadlines ≡ listed s.deadline s.rows
  pub periods_front : take s.rows periods ≡ listed s.period s.rows

-- Each of three columns has at least so many words.
pub record Fronts (n : ℕ) (costs deadlines periods : List ℕ) : Type 0 where
  pub costs_there : n ≤ length costs
  pub deadlines_there : n ≤ length deadlines
  pub periods_there : n ≤ length periods

-- None of several checks holds.
abbrev pub NoneHold : List ℕ → Type 0
NoneHold [] = Unit {0}
NoneHold (check ∷ later) = (check ≡ 0) × NoneHold later
