-- `Apart::columns` checks the shape, and behind that the fronts of its columns are the rows of the words.
use mathlib.Core.Path.{◌≡◌, sym, ◌∙◌, ap}
use mathlib.Core.List.{List}
use Prim.Native.Nat.{ℕ, ◌≤◌}
use lib.ListN.{length, take}
use native.Mathlib.Omega.{arith}
use Rattle.laws.specs.Fill.{listed}
use Rattle.laws.proofs.Fill.{listed-length}
use Rattle.rows.specs.Layouts.{in_triples, shape_refusal}
use Rattle.rows.proofs.Checks.{words_laid, shape_sized}
use Rattle.rows.proofs.InOrder.{passed}
use Rattle.rows.proofs.Layouts.{taken_apart}
use Rattle.layout.proofs.apart.Apart.columns.Goals as goal
use Rattle.layout.proofs.apart.Apart.columns.Goals.{In_ok-check_shape, After-fill_columns}

shaped : (c : In_ok-check_shape) → shape_refusal (in_triples c.args.words.now) ≡ 0
shaped c = passed _ c.in_ok-check_shape.ensures

pub fill_columns-requires : goal.fill_columns-requires
fill_columns-requires c =
    let sized = shape_sized _ (shaped (goal.at.fill_columns-requires c).In_ok-check_shape) in
    (sized.2, words_laid _ sized.0)

-- There are at most 64 rows.
few : (c : After-fill_columns) → c.row_count-count.result ≤ 64
few c = omega (arith, c.row_count-count.ensures, (shape_sized _ (shaped (goal.at.After-fill_columns c).In_ok-check_shape)).2)

pub shared_ref_as_front-result : goal.shared_ref_as_front-result
shared_ref_as_front-result c = few (goal.at.shared_ref_as_front-result c).After-fill_columns

pub shared_ref_as_front-result-2 : goal.shared_ref_as_front-result-2
shared_ref_as_front-result-2 c = few (goal.at.shared_ref_as_front-result-2 c).After-fill_columns

pub shared_ref_as_front-result-3 : goal.shared_ref_as_front-result-3
shared_ref_as_front-result-3 c = few (goal.at.shared_ref_as_front-result-3 c).After-fill_columns

-- A column's front is as long as there are rows.
each : (f : ℕ → ℕ) (rows count : ℕ) (column : List ℕ) → count ≡ rows → take rows column ≡ listed f rows → length (take count column) ≡ rows
each f rows count column counted front = rw counted (ap length front ∙ listed-length f rows)

pub invariant_of-result : goal.invariant_of-result
invariant_of-result c =
    let sized = shape_sized _ (shaped (goal.at.invariant_of-result c).In_ok-check_shape) in
    let counted = c.row_count-count.ensures in
    let filled = c.fill_columns.ensures in
    let costs = each _ _ _ _ counted filled.costs_front in
    record {
      deadlines_each = each _ _ _ _ counted filled.deadlines_front ∙ sym costs;
      periods_each = each _ _ _ _ counted filled.periods_front ∙ sym costs;
      some_row = rw costs sized.1;
      few = rw costs sized.2;
    }

pub returns : goal.returns
returns c =
    record {
      shape = c.in_ok-check_shape.ensures;
      same = taken_apart _ _ _ _ _ (shaped (goal.at.returns c).In_ok-check_shape) c.row_count-count.ensures c.fill_columns.ensures;
    }
