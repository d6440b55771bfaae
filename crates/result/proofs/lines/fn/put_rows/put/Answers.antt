-- A row's line has its mark and its bound, with as many digits as the line has room for.
use Rattle.report.specs.Lines.{result_line, result_row_line, result_line_of}
use Rattle.result.proofs.lines.fn.put_rows.put.Goals as goal

pub returns : goal.returns
unfolding result_line result_line_of result_row_line
returns c = rw (c.requires.2, c.mark_of.ensures) at c.put_line.ensures
