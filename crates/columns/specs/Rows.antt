-- The rows that columns of one length say.
use Rattle.model.specs.Sheet.{Sheet, columns}
use Rattle.columns.specs.declared.Columns.{Columns}
use Rattle.rows.specs.Layouts.{Lent, in_columns}

-- Their sheet.
abbrev pub sheet_in : Columns → Sheet
sheet_in rows = columns rows.costs.now rows.deadlines.now rows.periods.now

-- The rows as an entry is lent them.
abbrev pub lent : Columns → Lent
lent rows = in_columns rows.costs.now rows.deadlines.now rows.periods.now
