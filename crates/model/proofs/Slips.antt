-- Slips that would pass a quick look: each is written out beside the definition that it would stand in for, and gives the wrong number that
-- document 01 names, where the right one stands in the table of numbers.
use mathlib.Core.Path.{◌≡◌, refl}
use mathlib.Core.Bool.{◌&&◌}
use mathlib.Core.List.{List, [], ◌∷◌}
use mathlib.Core.Option.{Option, none, some}
use Prim.Native.Nat.{ℕ, ◌+◌, ◌*◌, ◌-◌, ◌/◌, ◌<◌}
use native.Mathlib.Omega.{arith}
use lib.Dec.{leb, eqb}
use lib.ListN.{get_or}
use Rattle.laws.specs.Choice.{pick}
use Rattle.laws.specs.Sum.{total, unless}
use Rattle.laws.specs.Search.{least}
use Rattle.laws.specs.Fill.{listed}
use Rattle.model.specs.Sheet.{Sheet, triples}
use Rattle.model.specs.Interference.{share, carried, work, share_of, work_of, others, bcl_term, rta_term, rta_right}
use Rattle.model.specs.Answer.{rta_answer, answer}
use Rattle.model.specs.Refine.{deadlines, turn, round}
use Rattle.model.specs.Demand.{row_demand, demand_of, demand, first_miss, Verdict, miss, fits}
use Rattle.model.specs.Numbers.{case_s, ask_s, twins, missing}

-- The sum over rows whose numbers are not those of row k.
pub by_value : Sheet → ℕ → (ℕ → ℕ) → ℕ
by_value s k f =
    total (λ i. pick (eqb (s.cost i) (s.cost k) && (eqb (s.deadline i) (s.deadline k) && eqb (s.period i) (s.period k))) 0 (f i)) s.rows

pub bcl_by_value : Sheet → ℕ → ℕ → List ℕ → Option ℕ
bcl_by_value s m k R =
    let q : ℕ = s.cost k + by_value s k (bcl_term s k R) / m in
    pick (leb q (s.deadline k)) (some q) none

pub rta_by_value : Sheet → ℕ → ℕ → List ℕ → Option ℕ
rta_by_value s m k R =
    least (λ x. eqb x (s.cost k + by_value s k (rta_term s k R x) / m)) (s.cost k) (s.deadline k + 1 - s.cost k)

-- Leaving out rows with k's numbers in place of row k: P6 would answer 3.
pub by_value_answers : (bcl_by_value twins 1 0 (4 ∷ 4 ∷ []) ≡ some 3) × (rta_by_value twins 1 0 (4 ∷ 4 ∷ []) ≡ some 3)
unfolding by_value bcl_by_value rta_by_value total least triples share carried work share_of work_of bcl_term rta_term
by_value_answers = (refl, refl)

pub rta_by_ceiling : Sheet → ℕ → ℕ → List ℕ → Option ℕ
rta_by_ceiling s m k R =
    least (λ x. eqb x (s.cost k + (others s k (rta_term s k R x) + m - 1) / m)) (s.cost k) (s.deadline k + 1 - s.cost k)

-- A ceiling in place of the floor: P7 by RTA would answer 4.
pub ceiling_answers : rta_by_ceiling twins 2 0 (4 ∷ 4 ∷ []) ≡ some 4
unfolding rta_by_ceiling total unless least triples share carried work share_of work_of others rta_term
ceiling_answers = refl

-- Demand with t − D divided toward zero when it is negative.
pub demand_toward_zero : ℕ → ℕ → ℕ → ℕ → ℕ
demand_toward_zero c d period t = ((t - d) / period + 1) * c

-- Dividing t − D toward zero when it is negative: P3 would give 3 at length 3.
pub toward_zero_demands : demand_toward_zero 3 4 4 3 ≡ 3
unfolding demand_toward_zero
toward_zero_demands = refl

-- Stopping after one round: S would keep 6 in row 2.
pub one_round_keeps : get_or (round case_s ask_s (deadlines case_s)) 2 0 ≡ 6
unfolding total unless least listed triples share carried work share_of work_of others rta_term rta_right rta_answer answer deadlines turn round
one_round_keeps = refl

-- The verdict of a clean horizon, without the busy length.
pub clean_fits : Option ℕ → ℕ → Verdict
clean_fits none h = fits h
clean_fits (some t) h = miss t

-- Saying "fits" because the horizon was clean: P10 at horizon 2 would fit, though length 3 has demand above it.
pub clean_horizon_fits : (clean_fits (first_miss missing 2) 2 ≡ fits 2) × (3 < demand missing 3)
unfolding clean_fits total least triples row_demand demand_of demand first_miss
clean_horizon_fits = (refl, omega arith)
