-- The left side of the density test, of densities in whatever unit: it keeps order, changes its unit with them, and is as near as they are;
-- and two other forms of the test.
use mathlib.Core.Path.{◌≡◌, ap, ap₂}
use mathlib.Core.Logic.{◌↔◌}
use Prim.Native.Nat.{ℕ, ◌+◌, ◌*◌, ◌-◌, ◌≤◌, ◌<◌}
use native.Mathlib.Nat.{mul_assoc, add-mul, mul-add, mul-le-mul_left}
use native.Mathlib.Omega.{arith}
use Rattle.laws.specs.Sum.{total, greatest}
use Rattle.laws.proofs.Sum.{total_mono, total-same, total_scaled, total_near}
use Rattle.laws.proofs.Greatest.{greatest_above, greatest_near, greatest_mono, greatest-same, greatest_scaled, greatest_at}
use Rattle.model.specs.Density.{left_side, Meets}

-- The left side keeps order, is the same where each density is, and is told in another unit as they are.
pub left_side_mono : (m : ℕ) (f g : ℕ → ℕ) (n : ℕ) → ((i : ℕ) → i < n → f i ≤ g i) → left_side m f n ≤ left_side m g n
unfolding left_side
left_side_mono m f g n each = omega (arith, total_mono f g n each, mul-le-mul_left (m - 1) (greatest_mono f g n each))

pub left_side_same : (m : ℕ) (f g : ℕ → ℕ) (n : ℕ) → ((i : ℕ) → i < n → f i ≡ g i) → left_side m f n ≡ left_side m g n
unfolding left_side
left_side_same m f g n each = ap₂ (λ (sum most : ℕ). sum + (m - 1) * most) (total-same f g n each) (greatest-same f g n each)

pub left_side_scaled : (m : ℕ) (f : ℕ → ℕ) (p n : ℕ) → left_side m (λ i. f i * p) n ≡ left_side m f n * p
unfolding left_side
left_side_scaled m f p n =
    rw (total_scaled f p n, greatest_scaled f p n, add-mul (total f n) ((m - 1) * greatest f n) p, mul_assoc (m - 1) (greatest f n) p)

-- Densities that are each less than so much above others: the left side is less than n + m − 1 times as much above.
pub left_side_near : (m : ℕ) (f g : ℕ → ℕ) (more n : ℕ) → 1 ≤ m → 1 ≤ n → ((i : ℕ) → i < n → f i < g i + more)
    → left_side m f n < left_side m g n + (n + m - 1) * more
unfolding left_side
left_side_near m f g more n some_processor some_row each =
    let parted : n + m - 1 ≡ n + (m - 1) = omega arith in
    let most : greatest f n ≤ greatest g n + more = greatest_near f g more n (λ i here. omega (arith, each i here)) in
    rw (parted, add-mul n (m - 1) more)
    (omega (arith, total_near f g more n some_row each, mul-le-mul_left (m - 1) most, mul-add (m - 1) (greatest g n) more))

-- The test row by row: with each row's density in place of the largest.
pub for_every_row : (m unit : ℕ) (f : ℕ → ℕ) (n : ℕ) → 1 ≤ n
    → Meets m unit f n ↔ ((k : ℕ) → k < n → total f n + (m - 1) * f k ≤ m * unit)
unfolding left_side
for_every_row m unit f n some_row = (
  λ meets_it k here. omega (arith, meets_it, mul-le-mul_left (m - 1) (greatest_above f n k here)),
  λ each. let top = greatest_at f n some_row in rw (← top.is_greatest) (each top.place top.here),
)

-- The test as the survey prints it: total ≤ m × (1 − largest) + largest, where no density is above 1.
pub as_printed : (m unit : ℕ) (f : ℕ → ℕ) (n : ℕ) → 1 ≤ m → greatest f n ≤ unit
    → Meets m unit f n ↔ (total f n ≤ m * (unit - greatest f n) + greatest f n)
unfolding left_side
as_printed m unit f n some_processor dense =
    let most = greatest f n in
    let last : m - 1 + 1 ≡ m = omega arith in
    let times : (m - 1 + 1) * most ≡ m * most = ap (λ (k : ℕ). k * most) last in
    let parted : (m - 1) * most + most ≡ m * most = omega (arith, times, add-mul (m - 1) 1 most) in
    let room : m * (unit - most) + m * most ≡ m * unit = omega (arith, mul-add m (unit - most) most, ap (λ (k : ℕ). m * k) (rejoined unit most dense)) in
    (λ meets_it. omega (arith, meets_it), λ printed. omega (arith, printed))
  where
    rejoined : (unit most : ℕ) → most ≤ unit → unit - most + most ≡ unit
    rejoined unit most dense = omega arith
