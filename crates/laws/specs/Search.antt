-- The least number in a range that passes a test.
use Rattle.std.specs.Prelude.{◌≡◌, Bool, true, false, ℕ, zero, suc, ◌+◌, ◌≤◌, ◌<◌}
use Rattle.std.proofs.Math.Option.{Option, none, some}
use Rattle.laws.specs.Choice.{pick}

-- The first of a, a + 1, .., a + n - 1 that passes the test, or none.
unfoldable pub least : (ℕ → Bool) → ℕ → ℕ → Option ℕ
least test a zero = none
least test a (suc n) = let later = least test (suc a) n in pick (test a) (some a) later

-- x passes, lies in the range, and nothing below it in the range passes.
pub record First (test : ℕ → Bool) (a n x : ℕ) : Type 0 where
  pub passes : test x ≡ true
  pub from : a ≤ x
  pub inside : x < a + n
  pub lowest : (y : ℕ) → a ≤ y → y < x → test y ≡ false

-- Nothing in the range passes.
abbrev pub Nothing : (ℕ → Bool) → ℕ → ℕ → Type 0
Nothing test a n = (y : ℕ) → a ≤ y → y < a + n → test y ≡ false

-- What an answer to a search means: a found number is the first, and none is given only where there is none.
abbrev pub Searched : (ℕ → Bool) → ℕ → ℕ → Option ℕ → Type 0
Searched test a n none = Nothing test a n
Searched test a n (some x) = First test a n x
