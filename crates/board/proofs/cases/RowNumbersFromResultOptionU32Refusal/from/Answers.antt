-- The answer to the one-row question in numbers: its bound, or 0 for none.
use mathlib.Core.Path.{◌≡◌, refl, ap}
use Prim.Native.Nat.{ℕ}
use Rattle.std.specs.Option.{unwrap_or}
use Rattle.std.specs.declared.option.Option.TheVariants.{Some, None}
use Rattle.rows.specs.Words.{Found, bound_or}
use Rattle.board.specs.declared.RowNumbers.{RowNumbers}
use Rattle.board.specs.Face.{row_in_numbers}
use Rattle.board.proofs.cases.RowNumbersFromResultOptionU32Refusal.from.Goals as goal

or_zero : (found : Found) → unwrap_or found 0 ≡ bound_or found 0
unfolding bound_or
or_zero (Some bound) = refl
or_zero None = refl

pub returns-in-Ok : goal.returns-in-Ok
unfolding row_in_numbers bound_or
returns-in-Ok c = rw (c.in-Ok.is, c.unwrap_or.ensures) (ap (λ (n : ℕ). let r : RowNumbers = record { refusal = 0; place = 0; bound = n } in r) (or_zero c.in-Ok.bound))

pub returns-in-Err : goal.returns-in-Err
unfolding row_in_numbers bound_or
returns-in-Err c = rw (c.in-Err.is, c.number.ensures, c.place.ensures)
