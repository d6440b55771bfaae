-- What is climbed.
use Rattle.std.specs.Prelude.{◌≡◌, ℕ, ◌≤◌}
use Rattle.laws.specs.Climb.{Monotone}

-- Calls from the first value to the top answer what this function gives, which keeps order and is not below the first value there.
pub record Images (answers : ℕ → ℕ → Type 0) (first top : ℕ) (f : ℕ → ℕ) : Type 0 where
  pub order : Monotone f
  pub rises : first ≤ f first
  pub each : (x y : ℕ) → first ≤ x → x ≤ top → answers x y → y ≡ f x
