-- What only inner functions and laws cite: no user need believe it.
use Rattle.std.specs.Prelude.{◌≡◌, List, ℕ, ◌+◌, ◌*◌, ◌-◌, ◌≤◌, ◌<◌, length, get_or}
use Rattle.laws.specs.Fill.{Below, listed}
use Rattle.model.specs.Sheet.{Sheet}
use Rattle.model.specs.Refine.{Ask, turn, Supported}

-- What every set of bounds on the way holds.
pub record Held (s : Sheet) (ask : Ask) (R : List ℕ) : Type 0 where
  pub one_each : length R ≡ s.rows
  pub falls : (k : ℕ) → k < s.rows → turn s ask k R ≤ get_or R k 0
  pub covers : (Q : List ℕ) → Supported s ask Q → Below s.rows Q R

-- Steps down a ray, every row by its own drop: the bounds of n rows after so many.
unfoldable pub along : ℕ → List ℕ → List ℕ → ℕ → List ℕ
along n R drops steps = listed (λ i. get_or R i 0 - steps * get_or drops i 0) n

-- For so many steps row k's turn allows the next one.
abbrev pub Falls : Sheet → Ask → List ℕ → List ℕ → ℕ → ℕ → Type 0
Falls s ask R drops k steps =
    (t : ℕ) → t < steps → turn s ask k (along s.rows R drops t) ≤ get_or R k 0 - (t + 1) * get_or drops k 0
