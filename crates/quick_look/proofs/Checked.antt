-- With number 0 the layout is not broken, and sheet and processors are allowed, and the other way round.
use mathlib.Core.Path.{◌≡◌}
use mathlib.Core.Bool.{Bool}
use Prim.Native.Nat.{ℕ}
use Rattle.model.specs.Sheet.{Sheet}
use Rattle.model.proofs.Sheet as sizes
use Rattle.refusals.specs.Refusals.{not_refused}
use Rattle.rows.proofs.Fold.{none_held, held_none}
use Rattle.rows.proofs.Checks.{accepted, accepted-passes, processors_allowed_lem, allowed_processors}
use Rattle.quick_look.specs.DensityTest.{density_refusal_of, Judgeable}

-- Number 0 gives every fact.
pub checked : (broken : Bool) (s : Sheet) (m : ℕ) → (density_refusal_of broken s m).number ≡ 0 → Judgeable broken s m
unfolding density_refusal_of
checked broken s m zero =
    let facts = accepted broken s _ zero in
    let range = sizes.allowed_processors m (processors_allowed_lem m (none_held _ facts.none_held).0) in
    record { laid = facts.laid; sizes = facts.sizes; some_processor = range.0; few = range.1 }

-- The facts give number 0 and place 0.
pub checked_passes : (broken : Bool) (s : Sheet) (m : ℕ) → Judgeable broken s m → density_refusal_of broken s m ≡ not_refused
unfolding density_refusal_of
checked_passes broken s m facts =
    accepted-passes broken s _
    (record {
      laid = facts.laid;
      sizes = facts.sizes;
      none_held = held_none _ (allowed_processors m (sizes.processors_allowed_lem m facts.some_processor facts.few), tt);
    })
