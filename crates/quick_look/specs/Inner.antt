-- What only inner functions cite: no user need believe it.
use Rattle.std.specs.Prelude.{ℕ, ◌+◌, ◌≤◌, max}
use Rattle.laws.specs.Sum.{total, greatest}
use Rattle.model.specs.Sheet.{Sheet}
use Rattle.model.specs.Density.{rounded_up, rounded_down}
use Rattle.quick_look.specs.declared.Side.{Side}
use Rattle.quick_look.specs.declared.Sides.{Sides}

-- The first n densities: their sum and the largest.
unfoldable pub side_of : (ℕ → ℕ) → ℕ → Side
side_of densities n = record { sum = total densities n; largest = greatest densities n }

-- One density more.
unfoldable pub side_with : Side → ℕ → Side
side_with side density = record { sum = side.sum + density; largest = max side.largest density }

-- All densities of a sheet, rounded down and rounded up.
unfoldable pub sides_of : Sheet → Sides
sides_of s = record { down = side_of (rounded_down s) s.rows; up = side_of (rounded_up s) s.rows }

-- At most 64 densities of at most 1.
pub record Small (side : Side) : Type 0 where
  pub sum_small : side.sum ≤ 64_000_000_000
  pub largest_small : side.largest ≤ 1_000_000_000
