-- The two layouts in which rows are lent: triples, one word list with a row's three words behind each other; and columns, three word lists.
use Rattle.std.specs.Prelude.{◌≡◌, Bool, not, ◌&&◌, List, [], ◌∷◌, ℕ, eqb, length}
use Rattle.laws.specs.Choice.{pick}
use Rattle.laws.specs.Fill.{listed, joined}
use Rattle.model.specs.Sheet.{Sheet, columns}
use Rattle.model.specs.Alike.{Alike}
use Rattle.rows.specs.Words.{sheet_of}
use Rattle.rows.specs.Checks.{not_whole, count_refusal}

-- Rows as an entry is lent them, in whatever layout: whether it is broken, and the sheet that they say.
pub record Lent : Type 0 where
  pub broken : Bool
  pub sheet : Sheet

-- Rows in triples.
abbrev pub in_triples : List ℕ → Lent
in_triples words = record { broken = not_whole words; sheet = sheet_of words }

-- The layout of columns is broken where their lengths differ.
unfoldable pub uneven : List ℕ → List ℕ → List ℕ → Bool
uneven costs deadlines periods = not (eqb (length deadlines) (length costs) && eqb (length periods) (length costs))

-- Rows in columns.
abbrev pub in_columns : List ℕ → List ℕ → List ℕ → Lent
in_columns costs deadlines periods = record { broken = uneven costs deadlines periods; sheet = columns costs deadlines periods }

-- The checks that are about the layout and the row count alone: 2 where the layout is broken or there is no row, 3 where there are more
-- than 64, else 0.
unfoldable pub shape_refusal : Lent → ℕ
shape_refusal lent = pick lent.broken 2 (count_refusal lent.sheet.rows)

-- The same rows, whatever the layouts: both broken or neither, and sheets that are alike.
pub record SameRows (one other : Lent) : Type 0 where
  pub layout : one.broken ≡ other.broken
  pub alike : Alike one.sheet other.sheet

-- A list of rows, given as a sheet, laid out in triples.
unfoldable pub as_triples : Sheet → Lent
as_triples s = in_triples (joined (λ k. s.cost k ∷ s.deadline k ∷ s.period k ∷ []) s.rows)

-- The same list laid out in columns.
unfoldable pub as_columns : Sheet → Lent
as_columns s = in_columns (listed s.cost s.rows) (listed s.deadline s.rows) (listed s.period s.rows)
