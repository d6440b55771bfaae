-- What lines say of a row's way down a ray.
use Rattle.std.specs.Prelude.{ℕ}
use Rattle.model.specs.Answer.{Method, method_of}
use Rattle.columns.specs.Rows.{sheet_in}
use Rattle.rows.specs.Methods.{method_number}
use Rattle.refinement.specs.Inner.Ray.{term_along, cap_along, added_along, sum_along, SmallLine, SumLine}
use Rattle.slopes.specs.declared.Line.{Line}
use Rattle.slopes.specs.declared.way.Way.{Way}

-- The method that a way down is asked by.
abbrev pub by : Way → Method
by way = method_of (method_number way.method)

-- A line over the most that another row may add.
abbrev pub Caps : Way → Line → Type 0
Caps way line =
    let ray = way.ray in
    SmallLine (cap_along (by way) (sheet_in ray.rows) ray.bounds.now ray.drops.now.each way.row) way.most line.value line.slope line.limit

-- A line over another row's term.
abbrev pub Covers : Way → ℕ → Line → Type 0
Covers way other line =
    let ray = way.ray in
    SmallLine (term_along (by way) (sheet_in ray.rows) ray.bounds.now ray.drops.now.each way.row other) way.most line.value line.slope line.limit

-- A line over what a row adds, which is nothing where it is the row itself.
abbrev pub Adds : Way → ℕ → Line → Type 0
Adds way other line =
    let ray = way.ray in
    SmallLine (added_along (by way) (sheet_in ray.rows) ray.bounds.now ray.drops.now.each way.row other) way.most line.value line.slope line.limit

-- A line over what all other rows add.
abbrev pub Sums : Way → Line → Type 0
Sums way line =
    let ray = way.ray in
    SumLine (sum_along (by way) (sheet_in ray.rows) ray.bounds.now ray.drops.now.each way.row) way.most line.value line.slope line.limit
