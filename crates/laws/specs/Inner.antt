-- What only inner functions and laws cite: no user need believe it.
use Rattle.std.specs.Prelude.{ℕ, ◌+◌, ◌*◌, ◌≤◌, ◌<◌}

-- For so many steps a function lies under the line that begins at a value and falls by a slope a step.
abbrev pub Under : (ℕ → ℕ) → ℕ → ℕ → ℕ → Type 0
Under f value slope steps = (t : ℕ) → t < steps → f t + t * slope ≤ value
