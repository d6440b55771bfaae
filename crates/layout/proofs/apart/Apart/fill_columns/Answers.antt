-- `fill_columns` fills three columns at once, row by row: each is filled by the same law, with the words of its own place in a row.
use mathlib.Core.Path.{◌≡◌, refl, ◌∙◌}
use mathlib.Core.List.{List}
use Prim.Native.Nat.{ℕ, ◌+◌, ◌<◌}
use native.Mathlib.Omega.{arith}
use lib.ListN.{length, set, length-set}
use Rattle.laws.proofs.Fill.{listed-none, listed_more}
use Rattle.model.specs.Sheet.{triples}
use Rattle.rows.specs.Words.{sheet_of}
use Rattle.layout.proofs.apart.Apart.fill_columns.Invariants.{Filled}
use Rattle.layout.proofs.apart.Apart.fill_columns.Goals as goal

filled_none : (f : ℕ → ℕ) (before : List ℕ) → Filled f 0 before before
filled_none f before = record { as_long = refl; filled = listed-none f before }

filled_more : (f : ℕ → ℕ) (row value : ℕ) (before now : List ℕ) → row < length before → Filled f row before now → value ≡ f row
    → Filled f (row + 1) before (set now row value)
filled_more f row value before now inside so_far is-value =
    record {
      as_long = length-set now row value ∙ so_far.as_long;
      filled = listed_more f row before now value inside so_far.filled is-value;
    }

pub loop-row-init : goal.loop-row-init
loop-row-init c = record { costs = filled_none _ _; deadlines = filled_none _ _; periods = filled_none _ _ }

pub loop-row-preserved : goal.loop-row-preserved
unfolding sheet_of triples
loop-row-preserved c =
    let q = c.loop-row in
    record {
      costs = filled_more _ q.row _ _ _ (omega arith) q.invariant.costs refl;
      deadlines = filled_more _ q.row _ _ _ (omega arith) q.invariant.deadlines refl;
      periods = filled_more _ q.row _ _ _ (omega arith) q.invariant.periods refl;
    }
