-- What the code answers is told as the definition says it: refused by a check, refused by the rows' shape, and nothing is lost.
use mathlib.Core.Path.{◌≡◌, sym, ◌∙◌, ap}
use Prim.Native.Nat.{ℕ}
use Rattle.std.specs.Prelude.{Result, Ok, Err}
use Rattle.model.specs.Sheet.{Sheet}
use Rattle.refusals.specs.declared.Refusal.{Refusal as Why}
use Rattle.refusals.specs.Refusals.{Refusal, refused}
use Rattle.refusals.specs.Told.{told}
use Rattle.rows.specs.Layouts.{Lent, shape_refusal}
use Rattle.rows.proofs.InOrder.{held, numbered, refused_so, told_fixed}
use Rattle.verdict.specs.declared.Outcome.{Outcome}
use Rattle.verdict.specs.OneProcessor.{Answer, refused_answer, one_processor_of, one_processor_in}
use Rattle.verdict.specs.Told.{outcome_said}
use Rattle.verdict.proofs.Promised.{one_processor_shape_refused}

-- A check that refuses is the answer, whatever the sheet.
pub outcome_refused : (why : Why) (refusal : Refusal) → told why ≡ refusal → (s : Sheet) (h : ℕ) → outcome_said (Err why) ≡ one_processor_of refusal s h
unfolding one_processor_of refused_answer
outcome_refused why refusal same s h = refused_so refused_answer why refusal _ same

-- So are 2 and 3.
pub outcome_by_shape : (lent : Lent) (h : ℕ) (why : Why) → told why ≡ refused (shape_refusal lent) 0 → outcome_said (Err why) ≡ one_processor_in lent h
unfolding refused_answer
outcome_by_shape lent h why same = ap refused_answer same ∙ sym (one_processor_shape_refused lent h (held why _ same))

-- Results that are told alike are one.
pub outcome_said_fixed : (r q : Result Outcome Why) → outcome_said r ≡ outcome_said q → r ≡ q
outcome_said_fixed (Ok outcome) (Ok other) same = ap Ok (ap (λ (a : Answer). a.outcome) same)
outcome_said_fixed (Ok outcome) (Err other) same = absurd (numbered other (sym (ap (λ (a : Answer). a.refusal) same)))
outcome_said_fixed (Err why) (Ok other) same = absurd (numbered why (ap (λ (a : Answer). a.refusal) same))
outcome_said_fixed (Err why) (Err other) same = ap Err (told_fixed why other (ap (λ (a : Answer). refused a.refusal a.place) same))
