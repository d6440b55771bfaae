-- What rows, processors and a method ask together is what each asks by itself, and a refusal is told as the definitions say it.
use mathlib.Core.Path.{◌≡◌}
use Prim.Native.Nat.{ℕ}
use Rattle.model.specs.Sheet.{Sheet}
use Rattle.columns.specs.declared.Columns.{Columns}
use Rattle.columns.specs.Rows.{sheet_in}
use Rattle.rows.specs.Methods.{method_number}
use Rattle.refinement.specs.declared.asked.Asked.{Asked}
use Rattle.refinement.specs.Asked.{sheet, AskedOf}

-- Whatever is made of a sheet, processors and a method's number.
pub asked_as : {A : Type 0} (made : Sheet → ℕ → ℕ → A) (rows : Columns) (processors method : ℕ) (asked : Asked) → AskedOf rows processors method asked
    → made (sheet asked) asked.processors (method_number asked.method) ≡ made (sheet_in rows) processors method
asked_as made rows processors method asked so = rw (so.by_rows, so.by_processors, so.by_method)
