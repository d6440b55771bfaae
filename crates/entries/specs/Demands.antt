-- Demands 2 and 3 of the entries on rows, in whatever layout the rows are lent.
use Rattle.std.specs.Prelude.{◌≡◌, List, ℕ, length}
use Rattle.model.specs.Refine.{rounds, at_once}
use Rattle.rows.specs.Layouts.{Lent}
use Rattle.refinement.specs.Question.{one_row_refusal_of, one_row_in, OneRowPromise}
use Rattle.refinement.specs.Refinement.{Engine, refine_refusal_in, refined_in, refined_words_in, EntriesAgree, Settled, NoWorse, AskedAgain}
use Rattle.verdict.specs.OneProcessor.{one_processor_refusal_of, one_processor_in, Promise}

-- Demand 2: one row's answer and the one-processor verdict mean what document 01 says of them, refused exactly by the table.
pub record DemandTwo (lent : Lent) : Type 0 where
  pub one_row : (m method : ℕ) (bounds : List ℕ) (row : ℕ)
      → OneRowPromise (one_row_refusal_of lent.broken lent.sheet m method bounds row) lent.sheet m method bounds row (one_row_in lent m method bounds row)
  pub one_processor : (horizon : ℕ)
      → Promise (one_processor_refusal_of lent.broken lent.sheet horizon) lent.sheet horizon (one_processor_in lent horizon)

-- What an engine that is not refused leaves: the largest consistent set and its marks, which the one-row entry, asked again, bears out.
pub record Ends (engine : Engine) (lent : Lent) (m method : ℕ) (out : List ℕ) : Type 0 where
  pub settled : Settled lent.sheet m method (refined_in engine lent m method (length out)) (refined_words_in engine lent m method out) out
  pub asked_again :
      AskedAgain lent.broken lent.sheet m method (refined_in engine lent m method (length out)) (refined_words_in engine lent m method out)

-- Demand 3: both engines answer and write the same, refused or not; not refused, each so ends; and RTA against BCL.
pub record DemandThree (lent : Lent) : Type 0 where
  pub agree : (m method : ℕ) (out : List ℕ) → EntriesAgree (refine_refusal_in lent m method (length out)) lent.sheet m method out
  pub rounds_end : (m method : ℕ) (out : List ℕ) → (refined_in rounds lent m method (length out)).refusal ≡ 0 → Ends rounds lent m method out
  pub at_once_ends : (m method : ℕ) (out : List ℕ) → (refined_in at_once lent m method (length out)).refusal ≡ 0 → Ends at_once lent m method out
  pub no_worse : (m : ℕ) (out : List ℕ) → (refined_in at_once lent m 1 (length out)).refusal ≡ 0 → (refined_in at_once lent m 0 (length out)).refusal ≡ 0
      → NoWorse lent.sheet (refined_in at_once lent m 1 (length out)) (refined_in at_once lent m 0 (length out))
      (refined_words_in at_once lent m 1 out) (refined_words_in at_once lent m 0 out)
