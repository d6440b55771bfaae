-- Digits are 0 to 9 and A to F, which are read in lower case too, and numbers are big end first.
use Rattle.std.specs.Prelude.{Bool, ◌&&◌, List, [], ◌∷◌, ◌++◌, ℕ, zero, suc, ◌+◌, ◌*◌, ◌-◌, ◌/◌, ◌%◌, leb, ltb, length, get_or, take, drop}
use Rattle.laws.specs.Choice.{pick}

-- Whether a byte lies from one byte to another, both included.
unfoldable pub within : ℕ → ℕ → ℕ → Bool
within first last byte = leb first byte && leb byte last

-- The value of a digit byte: `0` (30) to `9` (39) are 0 to 9, `A` (41) to `F` (46) and `a` (61) to `f` (66) are 10 to 15. A byte that is
-- no digit counts 16.
unfoldable pub digit_value : ℕ → ℕ
digit_value byte =
    pick (within 0x30 0x39 byte) (byte - 0x30)
    (pick (within 0x41 0x46 byte) (byte - 0x41 + 10)
    (pick (within 0x61 0x66 byte) (byte - 0x61 + 10)
    16))

-- Whether a byte is a digit.
unfoldable pub is_digit : ℕ → Bool
is_digit byte = ltb (digit_value byte) 16

-- The byte of a digit's value, in upper case. Of a number of more digits it is the byte of the last.
unfoldable pub digit_byte : ℕ → ℕ
digit_byte value = pick (ltb (value % 16) 10) (0x30 + value % 16) (0x41 + (value % 16 - 10))

-- A byte in upper case: `a` (61) to `f` (66) become `A` (41) to `F` (46), and every other byte is as it was.
unfoldable pub upper : ℕ → ℕ
upper byte = pick (within 0x61 0x66 byte) (byte - 0x61 + 0x41) byte

-- The number that the `count` digits from offset `at` on say. Past the end a byte reads 0.
unfoldable pub number : List ℕ → ℕ → ℕ → ℕ
number bytes at zero = 0
number bytes at (suc count) = number bytes at count * 16 + digit_value (get_or bytes (at + count) 0)

-- The last `count` digits of a value.
unfoldable pub digits : ℕ → ℕ → List ℕ
digits zero value = []
digits (suc count) value = digits count (value / 16) ++ (digit_byte value ∷ [])

-- The bytes with the last `count` digits of a value from offset `at` on; as they were where there is no room for them.
unfoldable pub with_digits : ℕ → ℕ → ℕ → List ℕ → List ℕ
with_digits at count value out =
    pick (leb (at + count) (length out)) (take at out ++ (digits count value ++ drop (at + count) out)) out
