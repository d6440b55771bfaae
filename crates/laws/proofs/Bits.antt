-- The bits of a number are the tests it was made of. By induction on how many there are; the highest is added last.
use mathlib.Core.Path.{◌≡◌, refl, sym, ◌∙◌, ap, ap₂}
use mathlib.Core.Bool.{Bool, true, false, ◌&&◌}
use mathlib.Core.Logic.{⊎_elim}
use Prim.Native.Nat.{ℕ, zero, suc, ◌+◌, ◌*◌, ◌-◌, ◌^◌, ◌/◌, ◌%◌, ◌≤◌, ◌<◌}
use native.Mathlib.Nat.{le_refl, eq-or-lt_of_le, le_of_suc-le-suc, le_step, le_dest, lt-suc_self, two-pow-succ, pow-succ', div-eq_of_lt, lt_of_lt_of_le, add-mul-div_right, add-mul-mod_self_right, add_comm, mul_assoc, div-div-eq-div-mul, div-one}
use native.Mathlib.Numerals.{add-one}
use native.Mathlib.Omega.{arith}
use lib.Dec.{eqb}
use lib.Arith.{digits_div}
use lib.Pow.{pow_pos, pow_mono, pow-add}
use Rattle.laws.specs.Sum.{total}
use Rattle.laws.specs.Bits.{bit, bits, bit_at, is_set, every}
use Rattle.laws.proofs.Choice.{never_both, and_left, and_right, and_both}
use Rattle.laws.proofs.Sum.{total-same}

-- One bit more, at the top.
pub bits_more : (f : ℕ → Bool) (n : ℕ) → bits f (suc n) ≡ bits f n + bit (f n) * 2 ^ n
unfolding bits total
bits_more f n = refl

-- A bit times a number is at most the number.
bit_times : (b : Bool) (x : ℕ) → bit b * x ≤ x
bit_times true x = omega arith
bit_times false x = omega arith

-- A number of n bits is below 2 ^ n.
pub bits_below : (f : ℕ → Bool) (n : ℕ) → bits f n < 2 ^ n
unfolding bits total
bits_below f zero = omega arith
bits_below f (suc n) = omega (arith, bits_below f n, bit_times (f n) (2 ^ n), two-pow-succ n)

-- One bit more, as a loop meets it: the bits before and the next test give the bits up to it, still below the next power.
pub bits_next : (f : ℕ → Bool) (n seen : ℕ) (b : Bool) → seen ≡ bits f n → b ≡ f n → seen + bit b * 2 ^ n ≡ bits f (n + 1)
bits_next f n seen b so_far here = rw (so_far, here, add-one) (sym (bits_more f n))

pub bit_below : (seen n : ℕ) (b : Bool) → seen < 2 ^ n → seen + bit b * 2 ^ n < 2 ^ (n + 1)
bit_below seen n b small = rw add-one (omega (arith, bit_times b (2 ^ n), two-pow-succ n))

-- Adding an even multiple of 2 ^ j leaves bit j.
higher_leaves : (x y j : ℕ) → bit_at (x + y * 2 ^ suc j) j ≡ bit_at x j
higher_leaves x y j =
    rw (pow-succ' 2 j, ← mul_assoc y 2 (2 ^ j), add-mul-div_right x (y * 2) (pow_pos j)) (add-mul-mod_self_right (x / 2 ^ j) y 2)

-- A bit is its own lowest bit.
bit_lowest : (b : Bool) → bit b % 2 ≡ bit b
bit_lowest true = refl
bit_lowest false = refl

-- A bit is 1 exactly where it was set.
pub bit-set : (b : Bool) → eqb (bit b) 1 ≡ b
bit-set true = refl
bit-set false = refl

-- The highest bit of a number is the one that was added last.
highest : (x n : ℕ) (b : Bool) → x < 2 ^ n → bit_at (x + bit b * 2 ^ n) n ≡ bit b
highest x n b small = rw (add_comm x (bit b * 2 ^ n), digits_div (bit b) small) (bit_lowest b)

-- Adding a bit above place j leaves bit j.
above_leaves : (x y n j : ℕ) → j < n → bit_at (x + y * 2 ^ n) j ≡ bit_at x j
above_leaves x y n j h = raised (le_dest h)
  where
    raised : (d : ℕ) × (suc j + d ≡ n) → bit_at (x + y * 2 ^ n) j ≡ bit_at x j
    raised gap =
        rw (← gap.1, add_comm (suc j) gap.0, pow-add 2 gap.0 (suc j), ← mul_assoc y (2 ^ gap.0) (2 ^ suc j))
        (higher_leaves x (y * 2 ^ gap.0) j)

-- Bit j is set exactly if f j, below the count.
pub bits_at : (f : ℕ → Bool) (n j : ℕ) → j < n → bit_at (bits f n) j ≡ bit (f j)
bits_at f zero j h = absurd (omega arith)
bits_at f (suc n) j h =
    ⊎_elim (λ (last : j ≡ n). rw (last, bits_more) (highest (bits f n) n (f n) (bits_below f n)))
    (λ (before : j < n). rw bits_more (above_leaves (bits f n) (bit (f n)) n j before ∙ bits_at f n j before))
    (eq-or-lt_of_le (le_of_suc-le-suc h))

-- Past the bits that a number has every bit is 0.
pub bit_past : (number n j : ℕ) → number < 2 ^ n → n ≤ j → bit_at number j ≡ 0
bit_past number n j small h = rw (div-eq_of_lt (lt_of_lt_of_le small (pow_mono h)))

pub bits_past : (f : ℕ → Bool) (n j : ℕ) → n ≤ j → bit_at (bits f n) j ≡ 0
bits_past f n j h = bit_past (bits f n) n j (bits_below f n) h

-- Numbers made of the same tests are the same.
pub bits-same : (f g : ℕ → Bool) (n : ℕ) → ((k : ℕ) → k < n → f k ≡ g k) → bits f n ≡ bits g n
unfolding bits
bits-same f g n each = total-same _ _ n (λ k h. ap (λ (b : Bool). bit b * 2 ^ k) (each k h))

-- Every place passes exactly if each does.
pub every_each : (f : ℕ → Bool) (n : ℕ) → every f n ≡ true → (k : ℕ) → k < n → f k ≡ true
unfolding every
every_each f zero all k h = absurd (omega arith)
every_each f (suc n) all k h =
    ⊎_elim (λ (last : k ≡ n). rw last (and_right (every f n) (f n) all))
    (λ (before : k < n). every_each f n (and_left (every f n) (f n) all) k before)
    (eq-or-lt_of_le (le_of_suc-le-suc h))

pub each_every : (f : ℕ → Bool) (n : ℕ) → ((k : ℕ) → k < n → f k ≡ true) → every f n ≡ true
unfolding every
each_every f zero each = refl
each_every f (suc n) each = and_both (every f n) (f n) (each_every f n (λ k h. each k (le_step h))) (each n (lt-suc_self n))

-- Every place passes one test as it passes another that is the same at each.
pub every-same : (f g : ℕ → Bool) (n : ℕ) → ((k : ℕ) → k < n → f k ≡ g k) → every f n ≡ every g n
unfolding every
every-same f g zero each = refl
every-same f g (suc n) each = ap₂ ◌&&◌ (every-same f g n (λ k h. each k (le_step h))) (each n (lt-suc_self n))

-- One place that fails is enough for not every.
pub every_fails : (f : ℕ → Bool) (n k : ℕ) → k < n → f k ≡ false → every f n ≡ false
every_fails f n k h failed = decided (every f n) refl
  where
    decided : (b : Bool) → every f n ≡ b → b ≡ false
    decided true all = absurd (never_both (every_each f n all k h) failed)
    decided false all = refl

-- Not every bit of a number is set past those that it has.
pub every_past : (number n rows : ℕ) → number < 2 ^ n → n < rows → every (is_set number) rows ≡ false
unfolding is_set
every_past number n rows small h =
    every_fails _ _ n h (ap (λ (x : ℕ). eqb x 1) (bit_past number n n small (le_refl n)))

-- What passes up to n and at n passes up to n + 1.
pub every_more : (f : ℕ → Bool) (n : ℕ) → every f n ≡ true → f n ≡ true → every f (n + 1) ≡ true
unfolding every
every_more f n all here = rw add-one (and_both (every f n) (f n) all here)

-- All n bits are set exactly if every place passes.
pub every_full : (f : ℕ → Bool) (n : ℕ) → every f n ≡ true → bits f n ≡ 2 ^ n - 1
unfolding every bits total
every_full f zero all = refl
every_full f (suc n) all =
    let rest : bits f n ≡ 2 ^ n - 1 = every_full f n (and_left (every f n) (f n) all) in
    let top : f n ≡ true = and_right (every f n) (f n) all in
    rw (bits_more, top) (omega (arith, two-pow-succ n, pow_pos n))

-- One bit more is full only where the rest is full and the bit is set.
fuller : (f : ℕ → Bool) (n : ℕ) → (bits f n ≡ 2 ^ n - 1 → every f n ≡ true) → (top : Bool)
    → bits f n + bit top * 2 ^ n ≡ 2 ^ suc n - 1 → (every f n && top) ≡ true
fuller f n rest true full = and_both (every f n) true (rest (omega (arith, two-pow-succ n, pow_pos n))) refl
fuller f n rest false full = absurd (omega (arith, bits_below f n, two-pow-succ n, pow_pos n))

pub full_every : (f : ℕ → Bool) (n : ℕ) → bits f n ≡ 2 ^ n - 1 → every f n ≡ true
unfolding every
full_every f zero full = refl
full_every f (suc n) full = fuller f n (full_every f n) (f n) (rw bits_more at full)

-- Bit k + 1 of a number is bit k of its half.
bit_of_half : (a k : ℕ) → bit_at a (suc k) ≡ bit_at (a / 2) k
bit_of_half a k = rw (pow-succ' 2 k) (ap (λ (x : ℕ). x % 2) (sym (div-div-eq-div-mul a 2 (2 ^ k))))

-- A number of n bits is told by them.
pub bits_tell : (n a b : ℕ) → a < 2 ^ n → b < 2 ^ n → ((k : ℕ) → k < n → bit_at a k ≡ bit_at b k) → a ≡ b
bits_tell zero a b low below same = omega arith
bits_tell (suc n) a b low below same =
    let halves : a / 2 ≡ b / 2 =
    bits_tell n (a / 2) (b / 2) (omega (arith, two-pow-succ n)) (omega (arith, two-pow-succ n))
    (λ k h. sym (bit_of_half a k) ∙ same (suc k) (omega arith) ∙ bit_of_half b k) in
    let last : a % 2 ≡ b % 2 = rw (div-one a, div-one b) at (same 0 (omega arith)) in
    omega arith
