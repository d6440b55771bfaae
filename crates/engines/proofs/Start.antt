-- Where the engines begin: the deadlines are bounds on the way, and the space has a word for each row.
use mathlib.Core.Path.{◌≡◌, refl, sym, ◌∙◌}
use mathlib.Core.List.{List}
use Prim.Native.Nat.{ℕ, zero, suc, ◌≤◌}
use native.Mathlib.Omega.{arith}
use lib.ListN.{length, take, replicate, get_or}
use lib.Seq.{length-take-le}
use Rattle.model.specs.Sheet.{columns}
use Rattle.model.proofs.Sheet.{few_rows}
use Rattle.rows.specs.Inner.{Even}
use Rattle.rows.proofs.Layouts.{deadlines_column}
use Rattle.refinement.specs.declared.asked.Asked.{Asked}
use Rattle.refinement.specs.Asked.{sheet, Underway}
use Rattle.refinement.proofs.Refinement.{running_first}

pub underway_first : (asked : Asked) (R : List ℕ) → R ≡ asked.rows.deadlines.now → Underway asked R
unfolding columns
underway_first asked R begins =
    let rows = asked.rows in
    let even : Even rows.costs.now rows.deadlines.now rows.periods.now = record { costs_each = refl; deadlines_each = rows.deadlines_each; periods_each = rows.periods_each } in
    running_first (sheet asked) R (sheet asked).rows _ _ asked.allowed refl asked.some_processor asked.few_processors
    (begins ∙ sym (deadlines_column _ _ _ even))

pub front : (asked : Asked) (n : ℕ) → n ≡ (sheet asked).rows → length {A = ℕ} (take n (replicate 64 0)) ≡ (sheet asked).rows
front asked n counted = length-take-le n (replicate 64 0) (omega (arith, few_rows _ asked.allowed)) ∙ counted

-- A row that has no drop has a small one.
pub no_drop : (n i : ℕ) → get_or (replicate n 0) i 0 ≤ 1_000_000
no_drop zero i = grind arith
no_drop (suc n) zero = grind arith
no_drop (suc n) (suc i) = grind (arith, no_drop n i)
