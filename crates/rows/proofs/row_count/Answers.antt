-- `rows::row_count` meets its contract: it is how many rows the sheet of the words is said to have.
use mathlib.Core.Path.{refl}
use Rattle.model.specs.Sheet.{triples}
use Rattle.rows.specs.Words.{sheet_of}
use Rattle.rows.proofs.row_count.Goals as goal

pub returns : goal.returns
unfolding sheet_of triples
returns c = refl
