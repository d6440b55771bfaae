-- Rows in lent words: a row is three words C, D, T, and rows follow each other.
use Rattle.std.specs.Prelude.{Option as Maybe, Some, None, Bool, not, List, ℕ, zero, suc, ◌/◌, length}
use Rattle.std.proofs.Math.Option.{Option, none, some}
use Rattle.laws.specs.Search.{least}
use Rattle.model.specs.Sheet.{Sheet, triples, row_allowed_at}

-- The sheet that the words say: as many rows as they hold whole.
unfoldable pub sheet_of : List ℕ → Sheet
sheet_of words = triples (length words / 3) words

-- A row outside the sizes allowed.
unfoldable pub outside : Sheet → ℕ → Bool
outside s k = not (row_allowed_at s k)

-- The first row outside the sizes allowed.
unfoldable pub first_outside : Sheet → Option ℕ
first_outside s = least (outside s) 0 s.rows

-- What a search found, as the code says it: a number, or that there is none.
abbrev pub Found : Type 0
Found = Maybe ℕ

-- The same of the definitions' own.
unfoldable pub found_of : Option ℕ → Found
found_of none = None
found_of (some k) = Some k

-- What was found, or another number where nothing was.
unfoldable pub bound_or : Found → ℕ → ℕ
bound_or (Some bound) other = bound
bound_or None other = other

-- An answer as a number: a bound is itself, and none is 0, which no bound is.
abbrev pub bound_number : Found → ℕ
bound_number found = bound_or found 0

-- An answer from such a number.
unfoldable pub found_from : ℕ → Found
found_from zero = None
found_from (suc k) = Some (suc k)
