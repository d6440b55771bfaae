-- Climbing: a number is replaced by the function's value at it until the value is the number itself.
use Rattle.std.specs.Prelude.{◌≡◌, Bool, ℕ, zero, suc, ◌≤◌, ◌<◌, eqb, ltb}
use Rattle.std.proofs.Math.Option.{Option, none, some}
use Rattle.laws.specs.Choice.{pick}

-- A function that keeps order.
abbrev pub Monotone : (ℕ → ℕ) → Type 0
Monotone f = (x y : ℕ) → x ≤ y → f x ≤ f y

-- Whether a number is its own value.
abbrev pub fixed : (ℕ → ℕ) → ℕ → Bool
fixed f x = eqb x (f x)

-- No number from a up to below x is its own value.
abbrev pub Passed : (ℕ → ℕ) → ℕ → ℕ → Type 0
Passed f a x = (z : ℕ) → a ≤ z → z < x → z ≡ f z → ⊥

-- From x, by at most `steps` values: none above the top, x where it is its own value, else from the value on.
unfoldable pub climb : (ℕ → ℕ) → ℕ → ℕ → ℕ → Option ℕ
climb f top zero x = none
climb f top (suc steps) x =
    let higher = climb f top steps (f x) in
    pick (ltb top x) none (pick (fixed f x) (some x) higher)
