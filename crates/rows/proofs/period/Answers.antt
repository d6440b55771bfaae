-- `rows::period` meets its contract: the word at its place of the row.
use Rattle.model.specs.Sheet.{triples}
use Rattle.rows.specs.Words.{sheet_of}
use Rattle.rows.proofs.period.Goals as goal

pub returns : goal.returns
unfolding sheet_of triples
returns c = c.word_at.ensures
