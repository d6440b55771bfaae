-- A byte's value and a value's byte, by the three ranges: in each of them one is a shift of the other, so the value comes back from the byte
-- that is written for it.
use mathlib.Core.Path.{◌≡◌, refl, ◌∙◌}
use mathlib.Core.Bool.{Bool, true, false}
use mathlib.Core.Logic.{⊎_elim}
use Prim.Native.Nat.{ℕ, ◌+◌, ◌-◌, ◌%◌, ◌≤◌, ◌<◌}
use native.Mathlib.Nat.{mod-mod, mod-eq_of_lt}
use native.Mathlib.Omega.{arith}
use borrow.Author.Tests.{le-leb, leb-true, lt-ltb, le-ltb}
use lib.Dec.{leb}
use Rattle.laws.specs.Choice.{pick}
use Rattle.laws.proofs.Choice.{never_both, pick_yes, pick_no, and_left, and_right, and_both}
use Rattle.laws.proofs.Order.{below_or_from}
use Rattle.digits.specs.Digits.{within, digit_value, is_digit, digit_byte}

-- A choice by a range: in it the one, and outside it the other.
pub by_within : (P : ℕ → Type 0) (first last byte one other : ℕ) → (first ≤ byte → byte ≤ last → P one)
    → ((first ≤ byte → byte ≤ last → ⊥) → P other) → P (pick (within first last byte) one other)
unfolding within
by_within P first last byte one other inside outside = split (within first last byte) refl
  where
    split : (b : Bool) → within first last byte ≡ b → P (pick b one other)
    split true lies =
        inside (leb-true first byte (and_left (leb first byte) (leb byte last) lies))
        (leb-true byte last (and_right (leb first byte) (leb byte last) lies))
    split false lies_not =
        outside
        (λ from upto. never_both (and_both (leb first byte) (leb byte last) (le-leb first byte from) (le-leb byte last upto)) lies_not)

-- What holds of the shift in each range, and of 16 outside all three, holds of a byte's value.
pub by_value : (P : ℕ → Type 0) (byte : ℕ) → (0x30 ≤ byte → byte ≤ 0x39 → P (byte - 0x30)) → (0x41 ≤ byte → byte ≤ 0x46 → P (byte - 0x41 + 10))
    → (0x61 ≤ byte → byte ≤ 0x66 → P (byte - 0x61 + 10))
    → ((0x30 ≤ byte → byte ≤ 0x39 → ⊥) → (0x41 ≤ byte → byte ≤ 0x46 → ⊥) → (0x61 ≤ byte → byte ≤ 0x66 → ⊥) → P 16) → P (digit_value byte)
unfolding digit_value
by_value P byte decimal upper lower none =
    by_within P _ _ byte _ _ decimal
    (λ no_decimal. by_within P _ _ byte _ _ upper (λ no_upper. by_within P _ _ byte _ _ lower (none no_decimal no_upper)))

-- So it is in each range, and in none.
pub value_decimal : (byte : ℕ) → 0x30 ≤ byte → byte ≤ 0x39 → digit_value byte ≡ byte - 0x30
value_decimal byte from upto =
    by_value (λ value. value ≡ byte - 0x30) byte (λ above below. refl) (λ above below. omega arith) (λ above below. omega arith)
    (λ no_decimal no_upper no_lower. absurd (no_decimal from upto))

pub value_upper : (byte : ℕ) → 0x41 ≤ byte → byte ≤ 0x46 → digit_value byte ≡ byte - 0x41 + 10
value_upper byte from upto =
    by_value (λ value. value ≡ byte - 0x41 + 10) byte (λ above below. omega arith) (λ above below. refl) (λ above below. omega arith)
    (λ no_decimal no_upper no_lower. absurd (no_upper from upto))

pub value_lower : (byte : ℕ) → 0x61 ≤ byte → byte ≤ 0x66 → digit_value byte ≡ byte - 0x61 + 10
value_lower byte from upto =
    by_value (λ value. value ≡ byte - 0x61 + 10) byte (λ above below. omega arith) (λ above below. omega arith) (λ above below. refl)
    (λ no_decimal no_upper no_lower. absurd (no_lower from upto))

pub value_none : (byte : ℕ) → (0x30 ≤ byte → byte ≤ 0x39 → ⊥) → (0x41 ≤ byte → byte ≤ 0x46 → ⊥) → (0x61 ≤ byte → byte ≤ 0x66 → ⊥)
    → digit_value byte ≡ 16
value_none byte no_decimal no_upper no_lower =
    by_value (λ value. value ≡ 16) byte (λ from upto. absurd (no_decimal from upto)) (λ from upto. absurd (no_upper from upto))
    (λ from upto. absurd (no_lower from upto)) (λ out_decimal out_upper out_lower. refl)

-- No byte counts more than 16.
pub value_limit : (byte : ℕ) → digit_value byte ≤ 16
value_limit byte =
    by_value (λ value. value ≤ 16) byte (λ from upto. omega arith) (λ from upto. omega arith) (λ from upto. omega arith)
    (λ no_decimal no_upper no_lower. omega arith)

-- The byte of a number whose last digit is below 10, and of one whose last digit is a letter.
pub byte_decimal : (value : ℕ) → value % 16 < 10 → digit_byte value ≡ 0x30 + value % 16
unfolding digit_byte
byte_decimal value below = pick_yes _ _ _ (lt-ltb (value % 16) 10 below)

pub byte_letter : (value : ℕ) → 10 ≤ value % 16 → digit_byte value ≡ 0x41 + (value % 16 - 10)
unfolding digit_byte
byte_letter value from = pick_no _ _ _ (le-ltb (value % 16) 10 from)

-- Only the last digit counts.
pub byte_last : (value : ℕ) → digit_byte (value % 16) ≡ digit_byte value
unfolding digit_byte
byte_last value = rw mod-mod

-- The value of a number's byte is the number's last digit.
pub value_of_byte : (value : ℕ) → digit_value (digit_byte value) ≡ value % 16
value_of_byte value =
    let small : value % 16 < 16 = omega arith in
    ⊎_elim
    (λ (below : value % 16 < 10).
    rw (byte_decimal value below) (value_decimal (0x30 + value % 16) (omega arith) (omega arith) ∙ omega arith))
    (λ (from : 10 ≤ value % 16).
    rw (byte_letter value from) (value_upper (0x41 + (value % 16 - 10)) (omega arith) (omega arith) ∙ omega arith))
    (below_or_from (value % 16) 10)

-- The digit's value comes back.
pub value_back : (value : ℕ) → value < 16 → digit_value (digit_byte value) ≡ value
value_back value small = value_of_byte value ∙ mod-eq_of_lt small

-- A byte that is written for a number is a digit.
pub byte_is_digit : (value : ℕ) → is_digit (digit_byte value) ≡ true
unfolding is_digit
byte_is_digit value = lt-ltb (digit_value (digit_byte value)) 16 (rw value_of_byte (omega arith))
