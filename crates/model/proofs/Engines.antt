-- Both engines end at the largest consistent set, which is unique; so they end at the same bounds and marks. Of two answers the better one
-- ends lower, since its final set is supported under the worse one.
use mathlib.Core.Path.{◌≡◌, refl, ◌∙◌, ap}
use mathlib.Core.Bool.{true, false}
use mathlib.Core.List.{List}
use mathlib.Core.Option.{Option, none, some}
use Prim.Native.Nat.{ℕ, ◌<◌}
use native.Mathlib.Nat.{le_of_eq, le_trans}
use native.Mathlib.Omega.{arith}
use lib.Dec.{eqb}
use lib.ListN.{get_or}
use Rattle.laws.specs.Choice.{or_else, is_some, Better}
use Rattle.laws.specs.Fill.{Below}
use Rattle.laws.specs.Bits.{is_set, every}
use Rattle.laws.proofs.Choice.{never_both, better_or_else, better_trans, better_exists}
use Rattle.laws.proofs.Fill.{below_antisymm}
use Rattle.laws.proofs.Bits.{bit-set, bits_below, bits_at, bits_past, every_each, each_every, every-same, every_full, full_every}
use Rattle.model.specs.Sheet.{Sheet}
use Rattle.model.specs.Refine.{Ask, deadlines, turn, round, sweep, until, passes, rounds, at_once, marked, marks, accepted, Consistent, Supported, Largest, SameEnd, MarksSay, Dominates}
use Rattle.model.specs.Inner.{Held}
use Rattle.model.proofs.Refine.{Regular, Pass, Ended, deadlines_held, deadlines_sum, until_ends, round_pass, sweep_pass}

-- What marks say, by the laws of bits.
pub marks_say : (s : Sheet) (ask : Ask) (R : List ℕ) → MarksSay s ask R
unfolding marks accepted
marks_say s ask R =
    record {
      within = bits_below (marked ask R) s.rows;
      each = bits_at (marked ask R) s.rows;
      past = bits_past (marked ask R) s.rows;
      full = (every_full (marked ask R) s.rows, full_every (marked ask R) s.rows);
    }

-- Whether all marks are set is whether the sheet is accepted.
pub accepted_by_marks : (s : Sheet) (ask : Ask) (R : List ℕ) → every (is_set (marks s ask R)) s.rows ≡ accepted s ask R
unfolding accepted is_set
accepted_by_marks s ask R =
    every-same _ _ s.rows (λ k h. ap (λ (x : ℕ). eqb x 1) ((marks_say s ask R).each k h) ∙ bit-set (marked ask R k))

-- A row not marked has its deadline in a consistent set.
pub unmarked_deadline : (s : Sheet) (ask : Ask) (R : List ℕ) → Consistent s ask R → (k : ℕ) → k < s.rows → marked ask R k ≡ false
    → get_or R k 0 ≡ s.deadline k
unfolding marked turn
unmarked_deadline s ask R consistent k h unmarked = consistent.by_turn k h ∙ without (ask k R) unmarked
  where
    without : (a : Option ℕ) → is_some a ≡ false → or_else a (s.deadline k) ≡ s.deadline k
    without none missing = refl
    without (some x) missing = absurd (never_both refl missing)

-- There is one largest consistent set at most.
pub largest_unique : (s : Sheet) (ask : Ask) (Q R : List ℕ) → Largest s ask Q → Largest s ask R → Q ≡ R
largest_unique s ask Q R q r =
    below_antisymm s.rows Q R q.consistent.one_each r.consistent.one_each (r.above Q q.consistent) (q.above R r.consistent)

module _ (s : Sheet) (ask : Ask) (regular : Regular s ask) where
  -- Passes from the deadlines end within 1 + the sum of D − C.
  ends : (pass : List ℕ → List ℕ) → Pass s ask pass → Ended s ask pass (until pass (passes s) (deadlines s))
  unfolding passes
  ends pass is_pass =
      until_ends s ask regular pass is_pass (passes s) (deadlines s) (deadlines_held s ask regular)
      (omega (arith, deadlines_sum s ask regular))

  -- Where passes end is the largest consistent set.
  ended_largest : (pass : List ℕ → List ℕ) → Pass s ask pass → (R : List ℕ) → Ended s ask pass R → Largest s ask R
  ended_largest pass is_pass R ended =
      record {
        consistent = is_pass.settles R ended.held ended.still;
        above = λ Q consistent. ended.held.covers Q (λ k h. le_of_eq (consistent.by_turn k h));
      }

  rounds-ended : Ended s ask (round s ask) (rounds s ask)
  unfolding rounds
  rounds-ended = ends (round s ask) (round_pass s ask regular)

  at_once_ended : Ended s ask (sweep s ask s.rows) (at_once s ask)
  unfolding at_once
  at_once_ended = ends (sweep s ask s.rows) (sweep_pass s ask regular)

  -- The rounds engine ends at the largest consistent set.
  pub rounds_largest : Largest s ask (rounds s ask)
  rounds_largest = ended_largest (round s ask) (round_pass s ask regular) (rounds s ask) rounds-ended

  -- So does the at-once engine.
  pub at_once_largest : Largest s ask (at_once s ask)
  at_once_largest = ended_largest (sweep s ask s.rows) (sweep_pass s ask regular) (at_once s ask) at_once_ended

  -- Demand 3.
  pub same_end : SameEnd s ask
  same_end =
      let agree : rounds s ask ≡ at_once s ask = largest_unique s ask (rounds s ask) (at_once s ask) rounds_largest at_once_largest in
      record {
        rounds_end = rounds-ended.still;
        at_once_ends = at_once_ended.still;
        same_bounds = agree;
        same-marks = ap (marks s ask) agree;
        largest = rounds_largest;
        only = λ R largest. largest_unique s ask R (rounds s ask) largest rounds_largest;
        unmarked = unmarked_deadline s ask (rounds s ask) rounds_largest.consistent;
      }

  -- Bounds on the way that a round leaves as they are are where the rounds engine ends.
  pub round_settled : (R : List ℕ) → Held s ask R → round s ask R ≡ R → R ≡ rounds s ask
  round_settled R held still =
      largest_unique s ask R (rounds s ask)
      (ended_largest (round s ask) (round_pass s ask regular) R (record { held = held; still = still })) rounds_largest

  -- And those that a sweep leaves as they are are where the at-once engine ends.
  pub sweep_settled : (R : List ℕ) → Held s ask R → sweep s ask s.rows R ≡ R → R ≡ at_once s ask
  sweep_settled R held still =
      largest_unique s ask R (at_once s ask)
      (ended_largest (sweep s ask s.rows) (sweep_pass s ask regular) R (record { held = held; still = still })) at_once_largest

  -- Every supported set lies below the end, not only every consistent one.
  pub supported_below : (Q : List ℕ) → Supported s ask Q → Below s.rows Q (rounds s ask)
  supported_below Q supported = rounds-ended.held.covers Q supported

-- Under the worse answer the better one's final set is supported, since a better answer gives a smaller turn.
better_supported : (s : Sheet) (better worse : Ask) → Regular s better → ((k : ℕ) (R : List ℕ) → Better (better k R) (worse k R))
    → (R : List ℕ) → Consistent s better R → Supported s worse R
unfolding turn
better_supported s better worse regular each_row R consistent k h =
    le_trans (le_of_eq (consistent.by_turn k h))
    (better_or_else (better k R) (worse k R) (s.deadline k) (each_row k R) (λ x found. (regular.within k R x found).1))

-- The better of two answers dominates: its final bounds are below the other's, and so is each answer under them.
pub dominates : (s : Sheet) (better worse : Ask) → Regular s better → Regular s worse
    → ((k : ℕ) (R : List ℕ) → Better (better k R) (worse k R)) → Dominates s better worse
unfolding marked accepted
dominates s better worse regular regular' each_row =
    let R : List ℕ = rounds s better in
    let R' : List ℕ = rounds s worse in
    let below : Below s.rows R R' =
    supported_below s worse regular' R
    (better_supported s better worse regular each_row R (rounds_largest s better regular).consistent) in
    let answers : (k : ℕ) → Better (better k R) (worse k R') =
    λ k. better_trans (better k R) (worse k R) (worse k R') (each_row k R) (regular'.keeps_order k R R' below) in
    let keeps : (k : ℕ) → marked worse R' k ≡ true → marked better R k ≡ true =
    λ k there. better_exists (better k R) (worse k R') (answers k) there in
    record {
      each_row = each_row;
      bounds = below;
      answers = answers;
      keeps_marks = keeps;
      keeps_accepted = λ all.
          each_every (marked better R) s.rows (λ k h. keeps k (every_each (marked worse R') s.rows all k h));
    }
