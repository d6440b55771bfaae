-- A list of rows: what is written down stands there, what is settled for one that adds its whole share is the same ever after.
use mathlib.Core.Path.{◌≡◌, ◌∙◌, ap}
use mathlib.Core.List.{List}
use Prim.Native.Nat.{ℕ, ◌+◌, ◌-◌, ◌≤◌, ◌<◌}
use native.Mathlib.Nat.{le_antisymm, le_trans}
use native.Mathlib.Omega.{arith}
use borrow.Author.Count.{below_more}
use lib.ListN.{get_or, set, length-set}
use lib.Seq.{get_or-set_same, get_or-set_other}
use Rattle.laws.specs.Sum.{total, unless}
use Rattle.laws.proofs.Sum.{total-same, total_step, total-unless}
use Rattle.model.specs.Sheet.{Sheet}
use Rattle.model.specs.Interference.{share_of, work, work_of, others, rta_term}
use Rattle.refinement.specs.declared.other.Other.{Other}
use Rattle.refinement.specs.Inner.{term_of, share_in}
use Rattle.refinement.specs.Inner.Kept.{no_row, row_at, term_from, term_at, KeptNumbers, KeptRow, KeptRows, KeptOf, Kept, kept_sum, Met}
use Rattle.refinement.proofs.Limits.{carried_positive}
use Rattle.refinement.proofs.Exclusion.{one_rises}

-- A row written down behind those that are kept.
module _ (l : List Other) (left : ℕ) (o : Other) (rows : KeptRows l left) (place : left < 64) where
  -- The rows before it are as they were.
  front_row : (j : ℕ) → j < left → row_at (set l left o) j ≡ row_at l j
  front_row j h = get_or-set_other l left j o no_row (λ here. omega arith)

  front_sum : (x cap : ℕ) → total (term_at (set l left o) x cap) left ≡ total (term_at l x cap) left
  unfolding term_at
  front_sum x cap = total-same _ _ left (λ j h. ap (λ (r : Other). term_from r x cap) (front_row j h))

  front_kept : (j : ℕ) → j < left → KeptRow (set l left o) j
  front_kept j h = rw (front_row j h) (rows.each j h)

  -- The row itself is there.
  last_row : row_at (set l left o) left ≡ o
  last_row = get_or-set_same l left o no_row (omega (arith, rows.sized))

  last_term : (x cap : ℕ) → term_at (set l left o) x cap left ≡ term_from o x cap
  unfolding term_at
  last_term x cap = ap (λ (r : Other). term_from r x cap) last_row

  -- It is not counted.
  rows_same : KeptRows (set l left o) left
  rows_same = record { sized = length-set l left o ∙ rows.sized; few = rows.few; each = front_kept }

  -- It is one more.
  rows_more : KeptNumbers o → KeptRows (set l left o) (left + 1)
  rows_more numbers =
      record {
        sized = length-set l left o ∙ rows.sized;
        few = omega arith;
        each = below_more (KeptRow (set l left o)) left front_kept (rw last_row numbers);
      }

  -- Either way what is kept and settled is no more than one row more may add.
  pub kept_more : (passed settled : ℕ) → KeptOf passed l left settled → KeptNumbers o → KeptOf (passed + 1) (set l left o) (left + 1) settled
  kept_more passed settled kept numbers = record { rows = rows_more numbers; small = omega (arith, kept.small) }

  pub kept_settled : (passed settled : ℕ) → KeptOf passed l left settled → o.share ≤ 1_000_000 → KeptOf (passed + 1) (set l left o) left (settled + o.share)
  kept_settled passed settled kept small = record { rows = rows_same; small = omega (arith, kept.small) }

  -- Counted, it adds what it adds; not counted, what is settled for it.
  pub sum_more : (settled x cap : ℕ) → kept_sum (set l left o) (left + 1) settled x cap ≡ kept_sum l left settled x cap + term_from o x cap
  sum_more settled x cap = omega (arith, total_step (term_at (set l left o) x cap) left, front_sum x cap, last_term x cap)

  pub sum_settled : (settled x cap : ℕ) → term_from o x cap ≡ o.share
      → kept_sum (set l left o) left (settled + o.share) x cap ≡ kept_sum l left settled x cap + term_from o x cap
  sum_settled settled x cap whole = omega (arith, front_sum x cap, whole)

-- A share of 0 or 1 is added from the first.
pub small_share : (o : Other) (x cap : ℕ) → 1 ≤ o.cost → 1 ≤ x → 1 ≤ cap → o.share ≤ 1 → term_from o x cap ≡ o.share
small_share o x cap some_cost window some_cap small = omega (arith, carried_positive o.cost o.period (x + o.ahead) some_cost (omega arith))

-- A row that adds its whole share adds it ever after.
pub whole_share : (o : Other) (x cap d : ℕ) → 1 ≤ o.period → o.share ≤ term_from o x cap → term_from o (x + d) (cap + d) ≡ o.share
whole_share o x cap d some_period whole = le_antisymm (omega arith) (le_trans whole (omega (arith, one_rises o x cap d some_period)))

-- A row's term goes by its numbers: its work is counted from how far its bound is above its cost.
pub term_numbers : (s : Sheet) (R : List ℕ) (given : ℕ → ℕ) (x cap i rise : ℕ) → s.cost i ≤ get_or R i 0
    → term_from (record { cost = s.cost i; period = s.period i; ahead = get_or R i 0 - s.cost i; share = given i; rise = rise }) x cap ≡ term_of s R given x cap i
unfolding term_of work_of work
term_numbers s R given x cap i rise from_cost =
    let time : x + (get_or R i 0 - s.cost i) ≡ x + get_or R i 0 - s.cost i = omega arith in
    rw time

-- What the rows before one and the rows behind it add is the right side's sum.
pub met_all : (s : Sheet) (R : List ℕ) (row window count z first all : ℕ) → row < count → count ≡ s.rows → window ≡ s.deadline row
    → let each = term_of s R (share_in s R window) z (z - s.cost row + 1) in
    first + total each 0 ≡ 0 + total each row
    → all + total each (row + 1) ≡ first + total each count
    → all ≡ others s row (rta_term s row R z)
unfolding total others rta_term share_of term_of share_in
met_all s R row window count z first all inside is_count is_window before behind =
    let each = term_of s R (share_in s R window) z (z - s.cost row + 1) in
    let lacks : all ≡ total (unless row each) count = omega (arith, total-unless each row count inside, total_step each row, before, behind) in
    lacks ∙ rw (is_window, is_count)

-- Rows that add the same from X on are met at X and at every number above it.
pub met_kept : (s : Sheet) (R : List ℕ) (l now : List Other) (row left settled stay full own x y : ℕ) → Met s R l row left settled x → own ≡ s.cost row → own ≤ x → x ≤ y
    → Kept now stay full × (stay ≤ left)
    → ((d : ℕ) → kept_sum now stay full (x + d) (x - own + 1 + d) ≡ kept_sum l left settled (x + d) (x - own + 1 + d))
    → Met s R now row stay full y
met_kept s R l now row left settled stay full own x y met is_cost from later kept same =
    record {
      kept = kept.0;
      fewer = omega (arith, met.fewer, kept.1);
      same = λ z above.
          let there : x + (z - x) ≡ z = omega arith in
          let cap : x - own + 1 + (z - x) ≡ z - s.cost row + 1 = omega arith in
          (rw (there, cap) at (same (z - x))) ∙ met.same z (omega arith);
    }
