-- Columns whose sizes were looked at, and no row is outside, are of allowed sizes.
use Rattle.columns.proofs.Shaped.{columns_sized}
use Rattle.columns.proofs.checked.CheckedTryFromRefColumns.try_from.Goals as goal

pub invariant_of-result : goal.invariant_of-result
invariant_of-result c = record { sizes = columns_sized c.args.rows.now c.in_ok-check_sizes.ensures }
