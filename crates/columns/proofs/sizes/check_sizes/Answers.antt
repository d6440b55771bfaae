-- `check_sizes` meets its contract: what `find` finds is the first row outside.
use mathlib.Core.Path.{◌≡◌, sym, ap}
use mathlib.Core.Bool.{true, false}
use mathlib.Core.Option.{none, some}
use native.Mathlib.Omega.{arith}
use borrow.Author.Tests.{tests}
use Rattle.std.specs.Prelude.{Some, None}
use Rattle.std.proofs.Common.{rules}
use Rattle.std.proofs.lemmas.Iterator.{first_from_Range}
use Rattle.laws.proofs.Search.{least-fixed}
use Rattle.model.specs.Sheet.{row_allowed_at}
use Rattle.rows.specs.Words.{outside, first_outside}
use Rattle.rows.specs.Checks.{rows_refusal}
use Rattle.columns.specs.Rows.{sheet_in}
use Rattle.columns.proofs.sizes.check_sizes.Goals as goal

pub returns-in-Some : goal.returns-in-Some
unfolding first_outside rows_refusal outside row_allowed_at
returns-in-Some c =
    let s = sheet_in c.args.rows.now in
    let found = first_from_Range _ _ _ (Some c.in-Some.row) (λ k. outside s k ≡ true) (λ k. outside s k ≡ false) c.in-Some.ensures.ran
    (λ x q k. search (rules, tests)) (λ x q k. search (rules, tests)) in
    sym
    (ap rows_refusal
    (least-fixed (outside s) 0 s.rows (some c.in-Some.row)
    record { passes = found.2; from = omega arith; inside = omega (arith, found.1, c.count.ensures); lowest = found.3 }))

pub returns-in-None : goal.returns-in-None
unfolding first_outside rows_refusal outside row_allowed_at
returns-in-None c =
    let s = sheet_in c.args.rows.now in
    let passed = first_from_Range _ _ _ None (λ k. outside s k ≡ true) (λ k. outside s k ≡ false) c.in-None.ensures.ran
    (λ x q k. search (rules, tests)) (λ x q k. search (rules, tests)) in
    sym (ap rows_refusal (least-fixed (outside s) 0 s.rows none (λ k from below. passed k from (omega (arith, c.count.ensures)))))
