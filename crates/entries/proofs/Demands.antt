-- Demands 2 and 3 in whatever layout: the laws of the entries are over a layout and a sheet, and these are their instances.
use mathlib.Core.Path.{◌≡◌}
use mathlib.Core.List.{List}
use Prim.Native.Nat.{ℕ}
use lib.ListN.{length}
use Rattle.model.specs.Refine.{rounds, at_once}
use Rattle.rows.specs.Layouts.{Lent, in_columns}
use Rattle.refinement.specs.Refinement.{Engine, EndsAlike, refine_refusal_in, refined_in}
use Rattle.refinement.proofs.Question.{one_row_keeps}
use Rattle.refinement.proofs.Demands.{rounds_alike, at_once_alike, entries_agree, entry_settled, entry_asked_again, rta_no_worse}
use Rattle.verdict.proofs.Promised.{keeps}
use Rattle.entries.specs.Demands.{DemandTwo, Ends, DemandThree}

pub demand_two : (lent : Lent) → DemandTwo lent
demand_two lent = record { one_row = one_row_keeps lent.broken lent.sheet; one_processor = keeps lent.broken lent.sheet }

module _ (lent : Lent) where
  ends : (engine : Engine) → EndsAlike engine → (m method : ℕ) (out : List ℕ) → (refined_in engine lent m method (length out)).refusal ≡ 0
      → Ends engine lent m method out
  ends engine alike m method out zero =
      record {
        settled = entry_settled engine alike (refine_refusal_in lent m method (length out)) lent.sheet m method out zero;
        asked_again = entry_asked_again engine alike lent.broken lent.sheet m method (length out) _ out zero;
      }

  pub demand_three : DemandThree lent
  demand_three =
      record {
        agree = λ m method out. entries_agree (refine_refusal_in lent m method (length out)) lent.sheet m method out;
        rounds_end = ends rounds rounds_alike;
        at_once_ends = ends at_once at_once_alike;
        no_worse = λ m out.
            rta_no_worse at_once at_once at_once_alike at_once_alike (refine_refusal_in lent m 1 (length out)) (refine_refusal_in lent m 0 (length out))
            lent.sheet m out out;
      }

-- So of the entries on columns.
pub columns-demand_two : (costs deadlines periods : List ℕ) → DemandTwo (in_columns costs deadlines periods)
columns-demand_two costs deadlines periods = demand_two (in_columns costs deadlines periods)

pub columns-demand_three : (costs deadlines periods : List ℕ) → DemandThree (in_columns costs deadlines periods)
columns-demand_three costs deadlines periods = demand_three (in_columns costs deadlines periods)
