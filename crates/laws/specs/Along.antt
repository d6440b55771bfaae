-- Places that go to other places, no two to one.
use Rattle.std.specs.Prelude.{◌≡◌, List, ℕ, ◌≤◌, ◌<◌, eqb, get_or}
use Rattle.std.proofs.Math.Option.{Option, none, some}
use Rattle.laws.specs.Search.{least}

-- The places below n go to places below N, no two of them to one.
pub record Injects (e : ℕ → ℕ) (n N : ℕ) : Type 0 where
  pub inside : (i : ℕ) → i < n → e i < N
  pub apart : (i j : ℕ) → i < n → j < n → e i ≡ e j → i ≡ j

-- At each place below n the first list holds no more than the second does at the place that it goes to.
abbrev pub UnderAlong : (ℕ → ℕ) → ℕ → List ℕ → List ℕ → Type 0
UnderAlong e n Q R = (i : ℕ) → i < n → get_or Q i 0 ≤ get_or R (e i) 0

-- What a list holds at a place that was looked for, and 0 where none was found.
unfoldable pub held_at : List ℕ → Option ℕ → ℕ
held_at Q none = 0
held_at Q (some i) = get_or Q i 0

-- What a list holds at the place below n that goes to j, and 0 where none goes there.
unfoldable pub spread : (ℕ → ℕ) → ℕ → List ℕ → ℕ → ℕ
spread e n Q j = held_at Q (least (λ i. eqb (e i) j) 0 n)
