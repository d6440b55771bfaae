-- A row's line has the row's three numbers.
use Rattle.grammar.specs.Lines.{line_of}
use Rattle.sheet.proofs.writer.fn.put_rows.put.Goals as goal

pub returns : goal.returns
unfolding line_of
returns c = rw (c.cost.ensures, c.deadline.ensures, c.period.ensures) at c.put_row_line.ensures
