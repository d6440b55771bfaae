-- Sums, products and the greatest over places.
use Rattle.std.specs.Prelude.{ℕ, zero, suc, ◌+◌, ◌*◌, max, eqb}
use Rattle.laws.specs.Choice.{pick}

-- f 0 + f 1 + .. + f (n - 1): the sum over the places below n.
unfoldable pub total : (ℕ → ℕ) → ℕ → ℕ
total f zero = 0
total f (suc n) = total f n + f n

-- f at every place but k, where it is 0: `total (unless k f) n` runs over every other place.
unfoldable pub unless : ℕ → (ℕ → ℕ) → ℕ → ℕ
unless k f i = pick (eqb i k) 0 (f i)

-- f 0 × f 1 × .. × f (n - 1); 1 where there is no place.
unfoldable pub product : (ℕ → ℕ) → ℕ → ℕ
product f zero = 1
product f (suc n) = product f n * f n

-- The greatest of f 0, f 1, .., f (n - 1); 0 where there is no place.
unfoldable pub greatest : (ℕ → ℕ) → ℕ → ℕ
greatest f zero = 0
greatest f (suc n) = max (greatest f n) (f n)
