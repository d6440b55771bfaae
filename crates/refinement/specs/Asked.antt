-- What rows, processors and a method that are asked together mean.
use Rattle.std.specs.Prelude.{◌≡◌, List, ℕ}
use Rattle.model.specs.Sheet.{Sheet}
use Rattle.model.specs.Refine.{Ask}
use Rattle.columns.specs.declared.Columns.{Columns}
use Rattle.columns.specs.Rows.{sheet_in}
use Rattle.rows.specs.Methods.{method_number}
use Rattle.refinement.specs.declared.asked.Asked.{Asked}
use Rattle.refinement.specs.Refinement.{Engine, ask_of, final_bounds, final_marks}
use Rattle.refinement.specs.Inner.{Prepared, Running}

-- The sheet that the rows say.
abbrev pub sheet : Asked → Sheet
sheet asked = sheet_in asked.rows

-- The one-row answer that they ask for.
abbrev pub ask : Asked → Ask
ask asked = ask_of (sheet asked) asked.processors (method_number asked.method)

-- Where an engine ends: the bounds, and the marks under them.
abbrev pub end_bounds : Engine → Asked → List ℕ
end_bounds engine asked = final_bounds engine (sheet asked) asked.processors (method_number asked.method)

abbrev pub end_marks : Engine → Asked → ℕ
end_marks engine asked = final_marks engine (sheet asked) asked.processors (method_number asked.method)

-- Bounds on the way to an engine's end.
abbrev pub Underway : Asked → List ℕ → Type 0
Underway asked R = Running (sheet asked) R (sheet asked).rows asked.processors (method_number asked.method)

-- A row under question, with what the others take worked out.
abbrev pub Shared : Asked → List ℕ → List ℕ → ℕ → Type 0
Shared asked R taken row = Prepared (sheet asked) R taken row (sheet asked).rows asked.processors

-- Rows, processors and a method's number, as they are asked together.
pub record AskedOf (rows : Columns) (processors method : ℕ) (asked : Asked) : Type 0 where
  pub by_rows : asked.rows ≡ rows
  pub by_processors : asked.processors ≡ processors
  pub by_method : method_number asked.method ≡ method
