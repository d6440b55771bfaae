-- The number whose bits are given, lowest first.
use Rattle.std.specs.Prelude.{Bool, true, ◌&&◌, ℕ, zero, suc, ◌*◌, ◌^◌, ◌/◌, ◌%◌, eqb}
use Rattle.laws.specs.Choice.{pick}
use Rattle.laws.specs.Sum.{total}

-- 1 where it holds, else 0.
abbrev pub bit : Bool → ℕ
bit b = pick b 1 0

-- The number with bit k set exactly if f k, for k below n.
unfoldable pub bits : (ℕ → Bool) → ℕ → ℕ
bits f n = total (λ k. bit (f k) * 2 ^ k) n

-- Bit j of a number.
abbrev pub bit_at : ℕ → ℕ → ℕ
bit_at number j = number / 2 ^ j % 2

-- Whether bit j of a number is set.
unfoldable pub is_set : ℕ → ℕ → Bool
is_set number j = eqb (bit_at number j) 1

-- Whether f holds at every place below n.
unfoldable pub every : (ℕ → Bool) → ℕ → Bool
every f zero = true
every f (suc n) = every f n && f n
