-- The loop of `fill_columns`: each column is filled up to the row.
use mathlib.Core.Path.{◌≡◌}
use mathlib.Core.List.{List, ◌++◌}
use Prim.Native.Nat.{ℕ}
use lib.ListN.{length, drop}
use Rattle.laws.specs.Fill.{listed}
use Rattle.rows.specs.Words.{sheet_of}
use Rattle.layout.proofs.apart.Apart.fill_columns.Given as goal

-- A column is filled by f up to a row, and behind it is what it was.
pub record Filled (f : ℕ → ℕ) (row : ℕ) (before now : List ℕ) : Type 0 where
  pub as_long : length now ≡ length before
  pub filled : now ≡ listed f row ++ drop row before

abbrev pub invariant-loop-row : goal.invariant-loop-row
invariant-loop-row l =
    record {
      costs : Filled (sheet_of l.words).cost l.row l.initial.self.costs l.self.costs;
      deadlines : Filled (sheet_of l.words).deadline l.row l.initial.self.deadlines l.self.deadlines;
      periods : Filled (sheet_of l.words).period l.row l.initial.self.periods l.self.periods;
    }
