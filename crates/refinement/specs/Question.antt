-- The one-row question: its checks, its answer, and what that means.
use Rattle.std.specs.Prelude.{◌≡◌, Bool, false, ◌&&◌, List, [], ◌∷◌, ℕ, ◌≤◌, ◌<◌, leb, ltb, eqb, length, get_or}
use Rattle.std.proofs.Math.Option.{Option, none, some}
use Rattle.laws.specs.Choice.{pick, unless_refused}
use Rattle.laws.specs.Bits.{every}
use Rattle.model.specs.Sheet.{Sheet, Allowed}
use Rattle.model.specs.Answer.{method_of, answer, Answers}
use Rattle.rows.specs.Words.{Found}
use Rattle.std.specs.declared.option.Option.TheVariants.{Some, None}
use Rattle.refusals.specs.Refusals.{Refusal}
use Rattle.rows.specs.Words.{found_of}
use Rattle.rows.specs.Checks.{processors_refusal, method_refusal, first_held, laid_refusal}
use Rattle.refusals.specs.Refusals.{refused, not_refused}
use Rattle.rows.specs.Layouts.{Lent, in_triples}

-- The answer to the one-row question: a refusal's number and place, or 0, 0 and the row's bound or none.
pub record OneRow : Type 0 where
  pub refusal : ℕ
  pub place : ℕ
  pub answer : Found

-- A bound lies from its row's cost to its deadline.
unfoldable pub bound_allowed : Sheet → List ℕ → ℕ → Bool
bound_allowed s R i = leb (s.cost i) (get_or R i 0) && leb (get_or R i 0) (s.deadline i)

-- The row number is below the row count, the lent bounds are one word per row, and each lies from its row's C to its D.
unfoldable pub question_allowed : Sheet → List ℕ → ℕ → Bool
question_allowed s R row = ltb row s.rows && (eqb (length R) s.rows && every (bound_allowed s R) s.rows)

-- 9: one-row question: not so.
unfoldable pub question_refusal : Sheet → List ℕ → ℕ → Refusal
question_refusal s R row = pick (question_allowed s R row) not_refused (refused 9 0)

-- The checks of the one-row question, on rows in whatever layout: 2, 3, 4, 5, 8, 9.
unfoldable pub one_row_refusal_of : Bool → Sheet → ℕ → ℕ → List ℕ → ℕ → Refusal
one_row_refusal_of broken s processors method bounds row =
    let first = laid_refusal broken s (first_held (processors_refusal processors ∷ method_refusal method ∷ [])) in
    unless_refused first.number first (question_refusal s bounds row)

-- What is answered to a refusal and a sheet: the refusal, or the one-row answer. Refused, it finds nothing.
unfoldable pub one_row_of : Refusal → Sheet → ℕ → ℕ → List ℕ → ℕ → OneRow
one_row_of refusal s processors method bounds row =
    unless_refused refusal.number (record { refusal = refusal.number; place = refusal.place; answer = None })
    (record { refusal = 0; place = 0; answer = found_of (answer (method_of method) s processors row bounds) })

-- What is answered to rows, in whatever layout they are lent.
abbrev pub one_row_in : Lent → ℕ → ℕ → List ℕ → ℕ → OneRow
one_row_in lent processors method bounds row =
    let s = lent.sheet in
    one_row_of (one_row_refusal_of lent.broken s processors method bounds row) s processors method bounds row

-- The same of rows in a word list.
abbrev pub one_row : List ℕ → ℕ → ℕ → List ℕ → ℕ → OneRow
one_row words processors method bounds row = one_row_in (in_triples words) processors method bounds row

-- An answer as document 01 says it: a bound, or none.
unfoldable pub answer_of : Found → Option ℕ
answer_of (Some bound) = some bound
answer_of None = none

-- Each bound lies from its row's cost to its deadline.
abbrev pub InRange : Sheet → List ℕ → Type 0
InRange s R = (i : ℕ) → i < s.rows → (s.cost i ≤ get_or R i 0) × (get_or R i 0 ≤ s.deadline i)

-- A sheet of allowed sizes, with one bound in range for each row.
pub record Ready (s : Sheet) (R : List ℕ) : Type 0 where
  pub rows : Allowed s
  pub one_each : length R ≡ s.rows
  pub in_range : InRange s R

-- What every question that is not refused was given: a layout that is not broken, a sheet of allowed sizes, 1 to 64 processors, a method.
pub record Posed (broken : Bool) (s : Sheet) (processors method : ℕ) : Type 0 where
  pub laid : broken ≡ false
  pub sizes : Allowed s
  pub some_processor : 1 ≤ processors
  pub few : processors ≤ 64
  pub by_method : method ≤ 1

-- What a one-row question was given beside: one bound in range for each row, and a row that is there.
pub record Askable (broken : Bool) (s : Sheet) (processors method : ℕ) (bounds : List ℕ) (row : ℕ) : Type 0 where
  pub posed : Posed broken s processors method
  pub ready : Ready s bounds
  pub there : row < s.rows

-- What an answer to the question promises: the table's refusal exactly; where nothing is refused the least response time (or the formula's
-- value) or that there is none; refused, every other number is 0.
pub record OneRowPromise (refusal : Refusal) (s : Sheet) (processors method : ℕ) (bounds : List ℕ) (row : ℕ) (r : OneRow) : Type 0 where
  pub number : r.refusal ≡ refusal.number
  pub place : r.place ≡ refusal.place
  pub answered : r.refusal ≡ 0 → Answers (method_of method) s processors row bounds (answer_of r.answer)
  pub nothing : (r.refusal ≡ 0 → ⊥) → r.answer ≡ None
