-- Numbers worked by hand: cases P1 to P10, as one table; what the engines do on S; sheets that tell wrong tools from right ones; densities.
use Rattle.std.specs.Prelude.{◌≡◌, [], ◌∷◌}
use Rattle.std.proofs.Math.Option.{none, some}
use Rattle.model.specs.Sheet.{Sheet, triples, columns}
use Rattle.model.specs.Interference.{share, work}
use Rattle.model.specs.Answer.{BCL, RTA, answer}
use Rattle.model.specs.Refine.{Ask, round, sweep, rounds, at_once, marks, Consistent}
use Rattle.model.specs.Demand.{row_demand, verdict, miss, fits, undecided}
use Rattle.model.specs.Density.{left_side, rounded_up, rounded_down, density, holds, fails, unsure}

-- Case S: three rows, two of them twins.
abbrev pub case_s : Sheet
case_s = triples 3 (2 ∷ 5 ∷ 5 ∷ 2 ∷ 5 ∷ 5 ∷ 3 ∷ 6 ∷ 6 ∷ [])

-- Two rows (3,4,4): twins.
abbrev pub twins : Sheet
twins = triples 2 (3 ∷ 4 ∷ 4 ∷ 3 ∷ 4 ∷ 4 ∷ [])

-- (1,2,4),(2,3,4).
abbrev pub fitting : Sheet
fitting = triples 2 (1 ∷ 2 ∷ 4 ∷ 2 ∷ 3 ∷ 4 ∷ [])

-- (2,2,4),(2,3,4).
abbrev pub missing : Sheet
missing = triples 2 (2 ∷ 2 ∷ 4 ∷ 2 ∷ 3 ∷ 4 ∷ [])

pub record WorkedByHand : Type 0 where
  -- I of (2,5,5), window 6, R 5, then R 4.
  pub p1 : share 2 5 5 5 6 ≡ 3
  pub p1_smaller : share 2 5 5 4 6 ≡ 2
  -- W of (2,5,5), L 4, R 5, then R 4.
  pub p2 : work 2 5 5 4 ≡ 4
  pub p2_smaller : work 2 5 4 4 ≡ 3
  -- Demand of (3,4,4) at 3, 4, 7, 8.
  pub p3_at_3 : row_demand 3 4 4 3 ≡ 0
  pub p3_at_4 : row_demand 3 4 4 4 ≡ 3
  pub p3_at_7 : row_demand 3 4 4 7 ≡ 3
  pub p3_at_8 : row_demand 3 4 4 8 ≡ 6
  -- Sheet S, row 2, RTA, bounds 5,5,6, then 4,4,6. Two processors.
  pub p4 : answer RTA case_s 2 2 (5 ∷ 5 ∷ 6 ∷ []) ≡ some 6
  pub p5 : answer RTA case_s 2 2 (4 ∷ 4 ∷ 6 ∷ []) ≡ some 5
  -- Two rows (3,4,4), m = 1, bounds 4,4, both methods; either twin.
  pub p6_bcl : (answer BCL twins 1 0 (4 ∷ 4 ∷ []) ≡ none) × (answer BCL twins 1 1 (4 ∷ 4 ∷ []) ≡ none)
  pub p6_rta : (answer RTA twins 1 0 (4 ∷ 4 ∷ []) ≡ none) × (answer RTA twins 1 1 (4 ∷ 4 ∷ []) ≡ none)
  -- The same with m = 2, RTA, then BCL.
  pub p7_rta : (answer RTA twins 2 0 (4 ∷ 4 ∷ []) ≡ some 3) × (answer RTA twins 2 1 (4 ∷ 4 ∷ []) ≡ some 3)
  pub p7_bcl : (answer BCL twins 2 0 (4 ∷ 4 ∷ []) ≡ some 4) × (answer BCL twins 2 1 (4 ∷ 4 ∷ []) ≡ some 4)
  -- Two rows (3,4,4), horizon 4.
  pub p8 : verdict twins 4 ≡ miss 4
  -- (1,2,4),(2,3,4), horizon 3.
  pub p9 : verdict fitting 3 ≡ fits 3
  -- (2,2,4),(2,3,4), horizons 2 and 3.
  pub p10_at_2 : verdict missing 2 ≡ undecided
  pub p10_at_3 : verdict missing 3 ≡ miss 3

-- One row (5,5,10).
abbrev pub single : Sheet
single = triples 1 (5 ∷ 5 ∷ 10 ∷ [])

-- RTA on S with two processors.
abbrev pub ask_s : Ask
ask_s = answer RTA case_s 2

-- (1,3,3),(1,6,6), and the same rows the other way round.
abbrev pub short_first : Sheet
short_first = triples 2 (1 ∷ 3 ∷ 3 ∷ 1 ∷ 6 ∷ 6 ∷ [])

abbrev pub long_first : Sheet
long_first = triples 2 (1 ∷ 6 ∷ 6 ∷ 1 ∷ 3 ∷ 3 ∷ [])

pub record Runs : Type 0 where
  -- Rounds on S give 4,4,6, then 4,4,5, then no change.
  pub first_round : round case_s ask_s (5 ∷ 5 ∷ 6 ∷ []) ≡ 4 ∷ 4 ∷ 6 ∷ []
  pub second_round : round case_s ask_s (4 ∷ 4 ∷ 6 ∷ []) ≡ 4 ∷ 4 ∷ 5 ∷ []
  pub third_round : round case_s ask_s (4 ∷ 4 ∷ 5 ∷ []) ≡ 4 ∷ 4 ∷ 5 ∷ []
  pub rounds_end : rounds case_s ask_s ≡ 4 ∷ 4 ∷ 5 ∷ []
  -- One sweep gives 4,4,5 at once, since it uses each new bound immediately, where one round gives 4,4,6.
  pub first_sweep : sweep case_s ask_s 3 (5 ∷ 5 ∷ 6 ∷ []) ≡ 4 ∷ 4 ∷ 5 ∷ []
  -- RTA on one processor, from the deadlines: whichever of two rows comes first, a sweep lowers the other further than a round does.
  pub round_short_first : round short_first (answer RTA short_first 1) (3 ∷ 6 ∷ []) ≡ 2 ∷ 3 ∷ []
  pub sweep_short_first : sweep short_first (answer RTA short_first 1) 2 (3 ∷ 6 ∷ []) ≡ 2 ∷ 2 ∷ []
  pub round_long_first : round long_first (answer RTA long_first 1) (6 ∷ 3 ∷ []) ≡ 3 ∷ 2 ∷ []
  pub sweep_long_first : sweep long_first (answer RTA long_first 1) 2 (6 ∷ 3 ∷ []) ≡ 3 ∷ 1 ∷ []
  -- The at-once engine ends at 4,4,5, and every row is marked.
  pub at_once_end : at_once case_s ask_s ≡ 4 ∷ 4 ∷ 5 ∷ []
  pub all_marked : marks case_s ask_s (4 ∷ 4 ∷ 5 ∷ []) ≡ 7
  -- One row (5,5,10): horizon 4 undecided, 5 fits 5.
  pub single_at_4 : verdict single 4 ≡ undecided
  pub single_at_5 : verdict single 5 ≡ fits 5

-- (1,1,2),(1,3,3): an RTA that leaves W out of the `min` does not mark row 1.
abbrev pub needs_work : Sheet
needs_work = triples 2 (1 ∷ 1 ∷ 2 ∷ 1 ∷ 3 ∷ 3 ∷ [])

-- (1,2,2),(1,5,5): an engine that stops after one sweep keeps 2,3.
abbrev pub needs_sweeps : Sheet
needs_sweeps = triples 2 (1 ∷ 2 ∷ 2 ∷ 1 ∷ 5 ∷ 5 ∷ [])

-- (1,2,2),(1,4,4): an engine that starts at the costs ends at 1,2, which is consistent and not the largest.
abbrev pub needs_deadlines : Sheet
needs_deadlines = triples 2 (1 ∷ 2 ∷ 2 ∷ 1 ∷ 4 ∷ 4 ∷ [])

-- Two rows (1,3,3): a ceiling in BCL answers 2 on two processors.
abbrev pub needs_floor : Sheet
needs_floor = triples 2 (1 ∷ 3 ∷ 3 ∷ 1 ∷ 3 ∷ 3 ∷ [])

-- Three sheets, RTA on one processor, each with its end by both engines; and one by BCL on two.
pub record Telling : Type 0 where
  pub with_work : (rounds needs_work (answer RTA needs_work 1) ≡ 1 ∷ 2 ∷ []) × (at_once needs_work (answer RTA needs_work 1) ≡ 1 ∷ 2 ∷ [])
  pub both_marked : marks needs_work (answer RTA needs_work 1) (1 ∷ 2 ∷ []) ≡ 3
  pub one_sweep : sweep needs_sweeps (answer RTA needs_sweeps 1) 2 (2 ∷ 5 ∷ []) ≡ 2 ∷ 3 ∷ []
  pub more_sweeps : (rounds needs_sweeps (answer RTA needs_sweeps 1) ≡ 1 ∷ 2 ∷ []) × (at_once needs_sweeps (answer RTA needs_sweeps 1) ≡ 1 ∷ 2 ∷ [])
  pub smaller_set : Consistent needs_deadlines (answer RTA needs_deadlines 1) (1 ∷ 2 ∷ [])
  pub bcl_floor : answer BCL needs_floor 2 0 (3 ∷ 3 ∷ []) ≡ some 1
  pub largest_set : (rounds needs_deadlines (answer RTA needs_deadlines 1) ≡ 2 ∷ 3 ∷ []) × (at_once needs_deadlines (answer RTA needs_deadlines 1) ≡ 2 ∷ 3 ∷ [])

-- (1,2,4),(2,3,4) and (2,2,4),(2,3,4) in columns, and costs that are fewer than the deadlines, which are fewer than the periods.
pub record InColumns : Type 0 where
  pub fits_at_3 : verdict (columns (1 ∷ 2 ∷ []) (2 ∷ 3 ∷ []) (4 ∷ 4 ∷ [])) 3 ≡ fits 3
  pub misses_at_3 : verdict (columns (2 ∷ 2 ∷ []) (2 ∷ 3 ∷ []) (4 ∷ 4 ∷ [])) 3 ≡ miss 3
  pub by_costs : (columns (1 ∷ []) (2 ∷ 3 ∷ []) (4 ∷ 4 ∷ 4 ∷ [])).rows ≡ 1

-- Three rows (1,3,3): together exactly 1, and rounded up two billionths more.
abbrev pub thirds : Sheet
thirds = triples 3 (1 ∷ 3 ∷ 3 ∷ 1 ∷ 3 ∷ 3 ∷ 1 ∷ 3 ∷ 3 ∷ [])

-- (1,999999,999999),(999999,1000000,1000000): together a thousandth of a billionth above 1.
abbrev pub just_above : Sheet
just_above = triples 2 (1 ∷ 999_999 ∷ 999_999 ∷ 999_999 ∷ 1_000_000 ∷ 1_000_000 ∷ [])

-- Densities in billionths, and the test's answers.
pub record Densities : Type 0 where
  -- S on two processors: 1,800,000,000 against 2,000,000,000, rounded up or down. With m × largest it would be 2,300,000,000.
  pub s_up : left_side 2 (rounded_up case_s) 3 ≡ 1_800_000_000
  pub s_down : left_side 2 (rounded_down case_s) 3 ≡ 1_800_000_000
  pub s_holds : density case_s 2 ≡ holds
  -- Each density is rounded, not the sum; and up for yes, down for no.
  pub thirds_up : left_side 1 (rounded_up thirds) 3 ≡ 1_000_000_002
  pub thirds_down : left_side 1 (rounded_down thirds) 3 ≡ 999_999_999
  pub thirds_unsure : density thirds 1 ≡ unsure
  pub above_unsure : density just_above 1 ≡ unsure
  -- Equality meets the test: one row (5,5,10), on one processor and on 64.
  pub equal : density single 1 ≡ holds
  pub equal_on_many : density single 64 ≡ holds
  -- Two rows (3,4,4) are two rows, and the largest density counts m − 1 times more: on two processors 2,250,000,000.
  pub twins_fail : density twins 1 ≡ fails
  pub twins_fail_on_two : density twins 2 ≡ fails
