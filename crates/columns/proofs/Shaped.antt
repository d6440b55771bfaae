-- Columns of one length have passed the checks of the rows' shape, and with no row outside they are of allowed sizes.
use mathlib.Core.Path.{◌≡◌, refl, sym, ◌∙◌, ap}
use mathlib.Core.Bool.{not}
use borrow.Author.Tests.{eq-eqb}
use Rattle.laws.proofs.Choice.{pick_no, and_both}
use Rattle.model.specs.Sheet.{columns, Allowed}
use Rattle.columns.specs.declared.Columns.{Columns}
use Rattle.columns.specs.Rows.{sheet_in, lent}
use Rattle.rows.specs.Layouts.{uneven, shape_refusal}
use Rattle.refusals.specs.Refusals.{Refusal, not_refused}
use Rattle.rows.specs.Words.{first_outside}
use Rattle.rows.specs.Checks.{rows_refusal}
use Rattle.rows.proofs.Checks.{within_count, accepted}
use Rattle.rows.proofs.InOrder.{by_sizes}

pub columns_shaped : (rows : Columns) → shape_refusal (lent rows) ≡ 0
unfolding shape_refusal uneven columns
columns_shaped rows =
    pick_no _ _ _ (ap not (and_both _ _ (eq-eqb _ _ rows.deadlines_each) (eq-eqb _ _ rows.periods_each)))
    ∙ within_count _ rows.some_row rows.few

-- So with no row outside they are of allowed sizes.
pub columns_sized : (rows : Columns) → not_refused ≡ rows_refusal (first_outside (sheet_in rows)) → Allowed (sheet_in rows)
columns_sized rows same =
    (accepted _ _ 0 (sym (ap (λ (r : Refusal). r.number) (by_sizes (lent rows) 0 not_refused (columns_shaped rows) refl same)))).sizes
