-- The other rows as a turn keeps them. What only inner functions and proofs cite: no user need believe it.
use Rattle.std.specs.Prelude.{◌≡◌, List, ℕ, ◌+◌, ◌*◌, ◌-◌, ◌/◌, ◌≤◌, ◌<◌, min, length, get_or}
use Rattle.laws.specs.Sum.{total}
use Rattle.model.specs.Sheet.{Sheet}
use Rattle.model.specs.Interference.{carried, others, rta_term}
use Rattle.refinement.specs.declared.other.Other.{Other}
use Rattle.refinement.specs.Inner.{reach}

-- Past the end of a list a row of zeros.
abbrev pub no_row : Other
no_row = record { cost = 0; period = 0; ahead = 0; share = 0; rise = 0 }

-- Row j of a list.
abbrev pub row_at : List Other → ℕ → Other
row_at l j = get_or l j no_row

-- What a row adds at X: its work, its share, or the cap, whichever is least.
abbrev pub term_from : Other → ℕ → ℕ → ℕ
term_from o x cap = min (carried o.cost o.period (x + o.ahead)) (min o.share cap)

-- Row j's.
unfoldable pub term_at : List Other → ℕ → ℕ → ℕ → ℕ
term_at l x cap j = term_from (row_at l j) x cap

-- What that comes to for certain.
abbrev pub top_from : Other → ℕ → ℕ
top_from o x = reach o.cost o.period ((x + o.ahead) / o.period * o.cost) o.share

unfoldable pub top_at : List Other → ℕ → ℕ → ℕ
top_at l x j = top_from (row_at l j) x

-- How far above the term that is.
unfoldable pub room_at : List Other → ℕ → ℕ → ℕ → ℕ
room_at l x cap j = top_at l x j - term_at l x cap j

-- What a line below a row's work gives at X: cost / period of the time, within its share and the cap, in parts of 2 ^ 32. The slope is rounded
-- down to such parts.
abbrev pub line_from : Other → ℕ → ℕ → ℕ
line_from o x cap = min (o.cost * 4_294_967_296 / o.period * (x + o.ahead)) (4_294_967_296 * min o.share cap)

unfoldable pub line_at : List Other → ℕ → ℕ → ℕ → ℕ
line_at l x cap j = line_from (row_at l j) x cap

-- The cost and the period of an allowed row, and a bound in range.
pub record Sizes (cost period bound : ℕ) : Type 0 where
  pub some_cost : 1 ≤ cost
  pub by_period : cost ≤ period
  pub small : period ≤ 1_000_000
  pub from_cost : cost ≤ bound
  pub by_limit : bound ≤ 1_000_000

-- Numbers as an allowed row has them.
pub record KeptNumbers (o : Other) : Type 0 where
  pub sizes : Sizes o.cost o.period (o.cost + o.ahead)
  pub small_share : o.share ≤ 1_000_000
  pub small_rise : o.rise ≤ 2_000_000
  pub comes : (whole : ℕ) → min (whole + o.rise) o.share ≡ reach o.cost o.period whole o.share

abbrev pub KeptRow : List Other → ℕ → Type 0
KeptRow l j = KeptNumbers (row_at l j)

-- A list with so many such rows.
pub record KeptRows (l : List Other) (left : ℕ) : Type 0 where
  pub sized : length l ≡ 64
  pub few : left ≤ 64
  pub each : (j : ℕ) → j < left → KeptRow l j

-- Such rows, and what is settled for others: together no more than so many rows may add.
pub record KeptOf (passed : ℕ) (l : List Other) (left settled : ℕ) : Type 0 where
  pub rows : KeptRows l left
  pub small : settled + left * 1_000_000 ≤ passed * 1_000_000

-- The same of as many rows as a sheet may have: small enough for every sum.
abbrev pub Kept : List Other → ℕ → ℕ → Type 0
Kept = KeptOf 64

-- What is settled, and what the rows kept add at X.
abbrev pub kept_sum : List Other → ℕ → ℕ → ℕ → ℕ → ℕ
kept_sum l left settled x cap = settled + total (term_at l x cap) left

-- From X on, what is settled and what the rows kept add is what all rows but one add to the right side of the RTA equation.
pub record Met (s : Sheet) (R : List ℕ) (l : List Other) (row left settled x : ℕ) : Type 0 where
  pub kept : Kept l left settled
  pub fewer : left ≤ s.rows
  pub same : (z : ℕ) → x ≤ z → kept_sum l left settled z (z - s.cost row + 1) ≡ others s row (rta_term s row R z)

-- No number from x to below next solves the equation: what is added fills m times the cap.
abbrev pub Excluded : List Other → ℕ → ℕ → ℕ → ℕ → ℕ → ℕ → Type 0
Excluded l left settled m own x next = (z : ℕ) → x ≤ z → z < next → m * (z - own + 1) ≤ kept_sum l left settled z (z - own + 1)
