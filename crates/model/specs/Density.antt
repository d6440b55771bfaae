-- The density test, GFB: total density + (m − 1) × largest density ≤ m, where the density of a row is C / D.
use Rattle.std.specs.Prelude.{◌≡◌, Bool, not, ℕ, ◌+◌, ◌*◌, ◌-◌, ◌/◌, ◌≤◌, ◌<◌, leb}
use Rattle.laws.specs.Choice.{pick}
use Rattle.laws.specs.Sum.{total, product, greatest}
use Rattle.model.specs.Sheet.{Sheet}
use Rattle.model.specs.Demand.{ceiling}

-- The left side of n densities, in whatever unit they are told: total + (m − 1) × largest.
unfoldable pub left_side : ℕ → (ℕ → ℕ) → ℕ → ℕ
left_side m densities n = total densities n + (m - 1) * greatest densities n

-- The test of n densities that are told in parts of a unit: the left side is at most m units.
abbrev pub Meets : ℕ → ℕ → (ℕ → ℕ) → ℕ → Type 0
Meets m unit densities n = left_side m densities n ≤ m * unit

unfoldable pub meets : ℕ → ℕ → (ℕ → ℕ) → ℕ → Bool
meets m unit densities n = leb (left_side m densities n) (m * unit)

-- The unit that is worked in: densities are told in billionths.
unfoldable pub billion : ℕ
billion = 1_000_000_000

-- The density of the row at place i in billionths, rounded.
unfoldable pub rounded : (ℕ → ℕ → ℕ) → Sheet → ℕ → ℕ
rounded rounding s i = rounding (s.cost i * billion) (s.deadline i)

-- Every density rounded up, and every density rounded down.
abbrev pub rounded_up : Sheet → ℕ → ℕ
rounded_up s = rounded ceiling s

abbrev pub rounded_down : Sheet → ℕ → ℕ
rounded_down s = rounded ◌/◌ s

-- The three answers: yes, no, unsure.
pub data Judgement : Type 0 where
  holds fails unsure : Judgement

-- Yes if the sum with every density rounded up meets the test, no if the sum with every density rounded down breaks it, else unsure.
unfoldable pub density : Sheet → ℕ → Judgement
density s m =
    pick (meets m billion (rounded_up s) s.rows) holds
    (pick (not (meets m billion (rounded_down s) s.rows)) fails unsure)

-- What each answer means in billionths.
pub record Between (s : Sheet) (m : ℕ) : Type 0 where
  pub not_met : m * billion < left_side m (rounded_up s) s.rows
  pub not_broken : Meets m billion (rounded_down s) s.rows

abbrev pub InBillionths : Sheet → ℕ → Judgement → Type 0
InBillionths s m holds = Meets m billion (rounded_up s) s.rows
InBillionths s m fails = m * billion < left_side m (rounded_down s) s.rows
InBillionths s m unsure = Between s m

-- The exact densities, over a common denominator p: each C / D is x / p, that is x × D = C × p.
pub record Exact (s : Sheet) (p : ℕ) (x : ℕ → ℕ) : Type 0 where
  pub positive : 1 ≤ p
  pub each : (i : ℕ) → i < s.rows → x i * s.deadline i ≡ s.cost i * p

-- The product of all deadlines is such a denominator, of which each row has C × (product / D) parts.
unfoldable pub common_whole : Sheet → ℕ
common_whole s = product s.deadline s.rows

unfoldable pub parts_of_whole : Sheet → ℕ → ℕ
parts_of_whole s i = s.cost i * (common_whole s / s.deadline i)

-- The exact left side, in billionths, is less than n + m − 1 away from m × 1,000,000,000; all told in parts of p.
pub record Near (m p : ℕ) (x : ℕ → ℕ) (n : ℕ) : Type 0 where
  pub below_by_less : m * billion * p < left_side m x n * billion + (n + m - 1) * p
  pub above_by_less : left_side m x n * billion < m * billion * p + (n + m - 1) * p

-- What each answer says of the exact densities: yes, they meet the test; no, they do not; unsure, they are near.
abbrev pub Says : ℕ → ℕ → (ℕ → ℕ) → ℕ → Judgement → Type 0
Says m p x n holds = Meets m p x n
Says m p x n fails = m * p < left_side m x n
Says m p x n unsure = Near m p x n
