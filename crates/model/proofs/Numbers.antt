-- P1 to P10, what the engines do on S, the sheets that tell, and densities: both sides compute to the same.
use mathlib.Core.Path.{◌≡◌, refl}
use mathlib.Core.List.{[], ◌∷◌}
use Prim.Native.Nat.{ℕ, zero, suc, ◌<◌}
use native.Mathlib.Omega.{arith}
use lib.ListN.{get_or}
use Rattle.laws.specs.Sum.{total, unless, greatest}
use Rattle.laws.specs.Search.{least}
use Rattle.laws.specs.Fill.{listed, same}
use Rattle.laws.specs.Bits.{bits}
use Rattle.model.specs.Sheet.{triples, columns}
use Rattle.model.specs.Interference.{share, carried, work, share_of, work_of, others, bcl_term, bcl_value, rta_term, rta_right}
use Rattle.model.specs.Answer.{RTA, bcl_answer, rta_answer, answer}
use Rattle.model.specs.Refine.{deadlines, turn, round, sweep, until, passes, rounds, at_once, marked, marks}
use Rattle.model.specs.Demand.{row_demand, demand_of, demand, ceiling, busy_of, busy, busy_length, first_miss, judged, verdict}
use Rattle.model.specs.Density.{left_side, meets, billion, rounded, density}
use Rattle.model.specs.Numbers.{WorkedByHand, Runs, needs_deadlines, Telling, InColumns, Densities}

pub worked_by_hand : WorkedByHand
unfolding total unless least triples share carried work share_of work_of others bcl_term bcl_value rta_term rta_right bcl_answer rta_answer answer row_demand demand_of demand ceiling busy_of busy busy_length first_miss judged verdict
worked_by_hand =
    record {
      p1 = refl;
      p1_smaller = refl;
      p2 = refl;
      p2_smaller = refl;
      p3_at_3 = refl;
      p3_at_4 = refl;
      p3_at_7 = refl;
      p3_at_8 = refl;
      p4 = refl;
      p5 = refl;
      p6_bcl = (refl, refl);
      p6_rta = (refl, refl);
      p7_rta = (refl, refl);
      p7_bcl = (refl, refl);
      p8 = refl;
      p9 = refl;
      p10_at_2 = refl;
      p10_at_3 = refl;
    }

pub runs : Runs
unfolding total unless least listed same bits triples share carried work share_of work_of others rta_term rta_right rta_answer answer deadlines turn round sweep until passes rounds at_once marked marks row_demand demand_of demand ceiling busy_of busy busy_length first_miss judged verdict
runs =
    record {
      first_round = refl;
      second_round = refl;
      third_round = refl;
      rounds_end = refl;
      first_sweep = refl;
      round_short_first = refl;
      sweep_short_first = refl;
      round_long_first = refl;
      sweep_long_first = refl;
      at_once_end = refl;
      all_marked = refl;
      single_at_4 = refl;
      single_at_5 = refl;
    }

-- Rows 0 and 1 of the smaller set are their own turns; there is no other row.
own_turns : (k : ℕ) → k < 2 → get_or (1 ∷ 2 ∷ []) k 0 ≡ turn needs_deadlines (answer RTA needs_deadlines 1) k (1 ∷ 2 ∷ [])
unfolding total unless least triples share carried work share_of work_of others rta_term rta_right rta_answer answer turn
own_turns zero h = refl
own_turns (suc zero) h = refl
own_turns (suc (suc k)) h = absurd (omega arith)

pub telling : Telling
unfolding total unless least listed same bits triples share carried work share_of work_of others bcl_term bcl_value rta_term rta_right bcl_answer rta_answer answer deadlines turn round sweep until passes rounds at_once marked marks
telling =
    record {
      with_work = (refl, refl);
      both_marked = refl;
      one_sweep = refl;
      more_sweeps = (refl, refl);
      smaller_set = record { one_each = refl; by_turn = own_turns };
      bcl_floor = refl;
      largest_set = (refl, refl);
    }

pub in_columns : InColumns
unfolding total least columns row_demand demand_of demand ceiling busy_of busy busy_length first_miss judged verdict
in_columns = record { fits_at_3 = refl; misses_at_3 = refl; by_costs = refl }

pub densities : Densities
unfolding total greatest triples ceiling left_side meets billion rounded density
densities =
    record {
      s_up = refl;
      s_down = refl;
      s_holds = refl;
      thirds_up = refl;
      thirds_down = refl;
      thirds_unsure = refl;
      above_unsure = refl;
      equal = refl;
      equal_on_many = refl;
      twins_fail = refl;
      twins_fail_on_two = refl;
    }
