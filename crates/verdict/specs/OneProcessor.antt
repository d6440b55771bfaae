-- One processor, exact: the whole answer to rows and a horizon, and what it promises.
use Rattle.std.specs.Prelude.{◌≡◌, Bool, false, List, [], ◌∷◌, ℕ, ◌≤◌}
use Rattle.laws.specs.Choice.{pick, unless_refused}
use Rattle.model.specs.Sheet.{Sheet, Allowed, horizon_allowed}
use Rattle.model.specs.Demand.{Verdict, miss, fits, undecided, verdict, Means}
use Rattle.refusals.specs.Refusals.{Refusal}
use Rattle.rows.specs.Checks.{first_held, laid_refusal}
use Rattle.rows.specs.Layouts.{Lent, in_triples}
use Rattle.verdict.specs.declared.Outcome.{Outcome}
use Rattle.verdict.specs.declared.Outcome.TheVariants.{Miss, Fits, Undecided}

-- What the test answers: a refusal's number and place, or 0 and 0, and an outcome. A refused answer says Undecided.
pub record Answer : Type 0 where
  pub refusal : ℕ
  pub place : ℕ
  pub outcome : Outcome

-- 6: horizon 0 or above 16,777,216.
unfoldable pub horizon_refusal : ℕ → ℕ
horizon_refusal horizon = pick (horizon_allowed horizon) 0 6

-- The checks that apply, in number order: 2, 3, 6, 8.
unfoldable pub one_processor_refusal_of : Bool → Sheet → ℕ → Refusal
one_processor_refusal_of broken s horizon = laid_refusal broken s (first_held (horizon_refusal horizon ∷ []))

-- The three answers in the code's words: miss t, fits b, undecided.
unfoldable pub outcome_of : Verdict → Outcome
outcome_of (miss t) = Miss t
outcome_of (fits b) = Fits b
outcome_of undecided = Undecided

-- The same read back.
unfoldable pub verdict_of : Outcome → Verdict
verdict_of (Miss t) = miss t
verdict_of (Fits b) = fits b
verdict_of Undecided = undecided

-- Each case as two numbers: undecided is 0 and 0, miss t is 1 and t, fits b is 2 and b.
unfoldable pub outcome_number : Outcome → ℕ
outcome_number Undecided = 0
outcome_number (Miss t) = 1
outcome_number (Fits b) = 2

unfoldable pub outcome_value : Outcome → ℕ
outcome_value Undecided = 0
outcome_value (Miss t) = t
outcome_value (Fits b) = b

-- A refused answer has its number and place, and nothing else: its outcome is the one of two zeros.
unfoldable pub refused_answer : Refusal → Answer
refused_answer refusal = record { refusal = refusal.number; place = refusal.place; outcome = Undecided }

-- An answer that is not refused carries number 0 and place 0.
unfoldable pub answered : Verdict → Answer
answered v = record { refusal = 0; place = 0; outcome = outcome_of v }

-- The whole answer, by what the checks gave and by the sheet.
unfoldable pub one_processor_of : Refusal → Sheet → ℕ → Answer
one_processor_of refusal s horizon = unless_refused refusal.number (refused_answer refusal) (answered (verdict s horizon))

-- The whole answer of rows, in whatever layout.
abbrev pub one_processor_in : Lent → ℕ → Answer
one_processor_in lent horizon = one_processor_of (one_processor_refusal_of lent.broken lent.sheet horizon) lent.sheet horizon

-- The whole answer of rows in a word list.
abbrev pub one_processor : List ℕ → ℕ → Answer
one_processor words horizon = one_processor_in (in_triples words) horizon

-- What a test that is not refused was given: a layout that is not broken, a sheet of allowed sizes and a horizon from 1 to 16,777,216.
pub record Testable (broken : Bool) (s : Sheet) (horizon : ℕ) : Type 0 where
  pub laid : broken ≡ false
  pub sizes : Allowed s
  pub from_one : 1 ≤ horizon
  pub within : horizon ≤ 16_777_216

-- What an answer promises: it is refused exactly as the checks say; not refused, its outcome means what document 01 says of it;
-- refused, it says nothing more.
pub record Promise (refusal : Refusal) (s : Sheet) (horizon : ℕ) (a : Answer) : Type 0 where
  pub number : a.refusal ≡ refusal.number
  pub place : a.place ≡ refusal.place
  pub means : a.refusal ≡ 0 → Means s horizon (verdict_of a.outcome)
  pub nothing : (a.refusal ≡ 0 → ⊥) → a.outcome ≡ Undecided
