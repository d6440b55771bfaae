-- Rows of allowed sizes, and what rows are taken for them.
use Rattle.std.specs.Prelude.{◌≡◌, Result, IfOk}
use Rattle.model.specs.Sheet.{Sheet}
use Rattle.columns.specs.declared.Columns.{Columns}
use Rattle.columns.specs.declared.checked.Checked.{Checked}
use Rattle.columns.specs.Rows.{sheet_in}
use Rattle.refusals.specs.declared.Refusal.{Refusal as Why}
use Rattle.rows.specs.Words.{first_outside}
use Rattle.rows.specs.Checks.{rows_refusal}
use Rattle.refusals.specs.Told.{said}

-- Their sheet.
abbrev pub checked_sheet : Checked → Sheet
checked_sheet checked = sheet_in checked.rows.now

-- Refused with the first row outside, or else the same rows.
abbrev pub Sized : Columns → Result Checked Why → Type 0
Sized rows checked = (said checked ≡ rows_refusal (first_outside (sheet_in rows))) × IfOk checked (λ c. c.rows.now ≡ rows)
