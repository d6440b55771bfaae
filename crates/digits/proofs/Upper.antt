-- Upper case: it moves six bytes, each to another of the same value, and no byte to one below `A`. So it changes nothing that is read, and
-- it is what comes back from reading and writing a digit.
use mathlib.Core.Path.{◌≡◌, refl, sym, ◌∙◌, ap}
use mathlib.Core.Bool.{true}
use mathlib.Core.List.{List, [], ◌∷◌, map}
use mathlib.Core.Logic.{◌↔◌}
use Prim.Native.Nat.{ℕ, zero, suc, ◌+◌, ◌-◌, ◌≤◌, ◌<◌}
use native.Mathlib.Omega.{arith}
use borrow.Author.Tests.{ltb-true, ne_eqb}
use lib.Dec.{eqb}
use lib.ListN.{length, get_or, length-map}
use lib.Seq.{ext_get_or}
use Rattle.laws.proofs.Choice.{same_after}
use Rattle.digits.specs.Digits.{digit_value, is_digit, digit_byte, upper}
use Rattle.digits.proofs.Digit.{by_within, by_value, value_upper, value_lower, byte_decimal, byte_letter, byte_last, value_of_byte, byte_is_digit}

-- Upper case moves `a` to `f`, and no other byte.
pub upper_moves : (byte : ℕ) → 0x61 ≤ byte → byte ≤ 0x66 → upper byte ≡ byte - 0x20
unfolding upper
upper_moves byte from upto =
    by_within (λ moved. moved ≡ byte - 0x20) _ _ byte _ _ (λ above below. omega arith) (λ out. absurd (out (omega arith) (omega arith)))

pub upper_stays : (byte : ℕ) → (0x61 ≤ byte → byte ≤ 0x66 → ⊥) → upper byte ≡ byte
unfolding upper
upper_stays byte no_lower =
    by_within (λ moved. moved ≡ byte) _ _ byte _ _ (λ from upto. absurd (no_lower (omega arith) (omega arith))) (λ out. refl)

-- What holds of a byte that moves, and of one that stays, holds of every byte.
by_case : {P : Type 0} (byte : ℕ) → (0x61 ≤ byte → byte ≤ 0x66 → upper byte ≡ byte - 0x20 → P) → (upper byte ≡ byte → P) → P
by_case {P} byte moves stays =
    by_within (λ _. P) 0x61 0x66 byte 0 0 (λ from upto. moves from upto (upper_moves byte from upto)) (λ out. stays (upper_stays byte out))

-- A byte counts the same in upper case.
pub upper_value : (byte : ℕ) → digit_value (upper byte) ≡ digit_value byte
upper_value byte =
    by_case byte
    (λ from upto moved. rw (moved, value_lower byte from upto) (value_upper (byte - 0x20) (omega arith) (omega arith) ∙ omega arith))
    (λ stayed. ap digit_value stayed)

-- So bytes that are the same in upper case count the same.
pub same_value : (byte other : ℕ) → upper byte ≡ upper other → digit_value byte ≡ digit_value other
same_value = same_after upper digit_value upper_value

-- No byte becomes one below `A`, or stops being one, by its case.
pub upper_apart : (byte sign : ℕ) → sign < 0x41 → eqb (upper byte) sign ≡ eqb byte sign
upper_apart byte sign below =
    by_case byte
    (λ from upto moved. ne_eqb (upper byte) sign (λ same. omega arith) ∙ sym (ne_eqb byte sign (λ same. omega arith)))
    (λ stayed. ap (λ (b : ℕ). eqb b sign) stayed)

-- The byte that is written for a digit byte that was read is that byte in upper case.
pub byte_back : (byte : ℕ) → is_digit byte ≡ true → digit_byte (digit_value byte) ≡ upper byte
unfolding is_digit
byte_back byte digit =
    by_value (λ value. value < 16 → digit_byte value ≡ upper byte) byte
    (λ from upto small. rw (byte_decimal (byte - 0x30) (omega arith), upper_stays byte (λ above below. omega arith)) (omega arith))
    (λ from upto small. rw (byte_letter (byte - 0x41 + 10) (omega arith), upper_stays byte (λ above below. omega arith)) (omega arith))
    (λ from upto small. rw (byte_letter (byte - 0x61 + 10) (omega arith), upper_moves byte from upto) (omega arith))
    (λ no_decimal no_upper no_lower small. absurd (omega arith))
    (ltb-true (digit_value byte) 16 digit)

-- So what is written for a number is in upper case.
pub byte_upper : (value : ℕ) → upper (digit_byte value) ≡ digit_byte value
byte_upper value = sym (byte_back (digit_byte value) (byte_is_digit value)) ∙ ap digit_byte (value_of_byte value) ∙ byte_last value

-- In upper case a byte stays as it is.
pub upper_twice : (byte : ℕ) → upper (upper byte) ≡ upper byte
upper_twice byte =
    by_case byte (λ from upto moved. rw moved (upper_stays (byte - 0x20) (λ above below. omega arith))) (λ stayed. ap upper stayed)

-- What stands at a place of bytes in upper case; past the end it is 0 as before.
pub upper_at_lem : (bytes : List ℕ) (i : ℕ) → get_or (map upper bytes) i 0 ≡ upper (get_or bytes i 0)
upper_at_lem [] i = sym (upper_stays 0 (λ above below. omega arith))
upper_at_lem (byte ∷ rest) zero = refl
upper_at_lem (byte ∷ rest) (suc i) = upper_at_lem rest i

-- Bytes are the same in upper case exactly where none of them is `a` to `f`.
pub same_in_upper : (bytes : List ℕ)
    → (map upper bytes ≡ bytes) ↔ ((i : ℕ) → i < length bytes → 0x61 ≤ get_or bytes i 0 → get_or bytes i 0 ≤ 0x66 → ⊥)
same_in_upper bytes = (
  λ same i inside from upto.
      let stays : upper (get_or bytes i 0) ≡ get_or bytes i 0 = sym (upper_at_lem bytes i) ∙ ap (λ (l : List ℕ). get_or l i 0) same in
      omega (arith, upper_moves (get_or bytes i 0) from upto),
  λ none.
      ext_get_or 0 (map upper bytes) bytes (length-map bytes upper)
      (λ i h. upper_at_lem bytes i ∙ upper_stays (get_or bytes i 0) (none i (rw (length-map bytes upper) at h))),
)
