-- Lists filled place by place and block by block, and compared place by place.
use Rattle.std.specs.Prelude.{Bool, true, false, ◌&&◌, List, [], ◌∷◌, ◌++◌, ℕ, zero, suc, ◌≤◌, ◌<◌, eqb, length, get_or, drop}
use Rattle.laws.specs.Choice.{unless_refused}

-- f 0, f 1, .., f (n - 1).
unfoldable pub listed : (ℕ → ℕ) → ℕ → List ℕ
listed f zero = []
listed f (suc n) = listed f n ++ (f n ∷ [])

-- The blocks f 0, f 1, .., f (n - 1), one behind the other.
unfoldable pub joined : (ℕ → List ℕ) → ℕ → List ℕ
joined f zero = []
joined f (suc n) = joined f n ++ f n

-- Whether two lists hold the same numbers at the same places.
unfoldable pub same : List ℕ → List ℕ → Bool
same [] [] = true
same [] (y ∷ ys) = false
same (x ∷ xs) [] = false
same (x ∷ xs) (y ∷ ys) = eqb x y && same xs ys

-- At each place below n the first list holds no more than the second.
abbrev pub Below : ℕ → List ℕ → List ℕ → Type 0
Below n Q R = (i : ℕ) → i < n → get_or Q i 0 ≤ get_or R i 0

-- What an entry leaves in lent space: exactly the answer at the front and nothing behind it changed; where it refuses, nothing changed.
unfoldable pub at_front : ℕ → List ℕ → List ℕ → List ℕ
at_front number answer space = unless_refused number space (answer ++ drop (length answer) space)
