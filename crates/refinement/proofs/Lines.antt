-- Lines over what falls: over a sum lies the sum of the lines, and a line stays below a room for as many steps as what is left holds.
use mathlib.Core.Path.{◌≡◌}
use Prim.Native.Nat.{ℕ, ◌+◌, ◌*◌, ◌-◌, ◌/◌, ◌≤◌, ◌<◌, min, zero-le}
use native.Mathlib.Nat.{le_trans, le_refl, le_of_eq, mul-le-mul, mul-zero, div-mul-le_self}
use native.Mathlib.Omega.{arith}
use Rattle.laws.specs.Inner.{Under}
use Rattle.laws.specs.Sum.{total}
use Rattle.laws.proofs.Line.{under_smaller, under_add}
use Rattle.laws.proofs.Sum.{total_step}
use Rattle.model.proofs.Ray.{next_step}
use Rattle.refinement.specs.Inner.Ray.{Lies, SmallLine, StaysBelow}

-- A line lies over anything smaller.
pub lies_smaller : (f g : ℕ → ℕ) (most value slope limit : ℕ) → ((t : ℕ) → t < most → g t ≤ f t) → Lies f most value slope limit
    → Lies g most value slope limit
lies_smaller f g most value slope limit smaller lies =
    record {
      under = under_smaller f g value slope limit (λ t h. smaller t (le_trans h lies.fewer)) lies.under;
      fewer = lies.fewer;
      gentle = lies.gentle;
    }

-- Lines over the first n functions of a family, added up.
pub record Summed (f : ℕ → ℕ → ℕ) (most n value slope limit : ℕ) : Type 0 where
  pub under : Under (λ t. total (λ i. f i t) n) value slope limit
  pub fewer : limit ≤ most
  pub small : value ≤ n * 1_000_000
  pub gentle : slope ≤ n * 2_000_000

pub summed_none : (f : ℕ → ℕ → ℕ) (most : ℕ) → Summed f most 0 0 0 most
unfolding total
summed_none f most = record { under = λ t h. omega arith; fewer = le_refl most; small = omega arith; gentle = omega arith }

pub summed_more : (f : ℕ → ℕ → ℕ) (most n value slope limit v s l : ℕ) → Summed f most n value slope limit → SmallLine (f n) most v s l
    → Summed f most (n + 1) (value + v) (slope + s) (min limit l)
summed_more f most n value slope limit v s l summed line =
    record {
      under = under_smaller (λ t. total (λ i. f i t) n + f n t) _ _ _ _ (λ t h. le_of_eq (total_step (λ i. f i t) n))
          (under_add (λ t. total (λ i. f i t) n) (f n) value slope limit v s l summed.under line.lies.under);
      fewer = omega (arith, summed.fewer);
      small = omega (arith, summed.small, line.small, next_step n 1_000_000);
      gentle = omega (arith, summed.gentle, line.lies.gentle, next_step n 2_000_000);
    }

-- A line that falls no slower than the room stays below it; one that falls slower does so for as many steps as what is left holds of the
-- difference.
pub stays_all : (value slope limit pull room : ℕ) → value < room → pull ≤ slope → StaysBelow value slope limit pull room limit
stays_all value slope limit pull room begins slower =
    let level : pull - slope ≡ 0 = omega arith in
    record { fewer = le_refl limit; begins = λ some. begins; lasts = λ t h. rw (level, mul-zero) zero-le }

pub stays_some : (value slope limit pull room steps : ℕ) → value < room
    → steps ≡ min limit ((room - 1 - value) / (pull - slope) + 1) → StaysBelow value slope limit pull room steps
stays_some value slope limit pull room steps begins is_least =
    record {
      fewer = omega arith;
      begins = λ some. begins;
      lasts = λ t h.
          le_trans (mul-le-mul {n₂ = (room - 1 - value) / (pull - slope)} (inside t h) (le_refl (pull - slope)))
          (div-mul-le_self (room - 1 - value) (pull - slope));
    }
  where
    inside : (t : ℕ) → t < steps → t ≤ (room - 1 - value) / (pull - slope)
    inside t h = let q = (room - 1 - value) / (pull - slope) in omega arith
