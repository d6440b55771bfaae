-- Numbers of several digits. Reading and writing both go digit by digit and end with the last one, so each law is one induction.
use mathlib.Core.Path.{◌≡◌, refl, sym, ◌∙◌, ap, ap₂}
use mathlib.Core.Bool.{true}
use mathlib.Core.List.{List, [], ◌∷◌, ◌++◌, map}
use Prim.Native.Nat.{ℕ, zero, suc, ◌+◌, ◌*◌, ◌-◌, ◌/◌, ◌%◌, ◌^◌, ◌≤◌, ◌<◌}
use native.Mathlib.Nat.{le_step, lt-suc_self, pow-suc, pow-le-pow_right, div-lt_iff_lt-mul}
use native.Mathlib.Numerals.{add-one}
use native.Mathlib.Omega.{arith}
use borrow.Author.Tests.{ltb-true, le-leb, lt-leb}
use lib.Arith.{digits_div, digits_mod}
use lib.ListN.{length, get_or, take, drop, set, length-append, length-drop, get_or-append}
use lib.Seq.{get_or_at, set_split, drop_at, drop-drop, length-take-le, append_snoc}
use Rattle.laws.specs.Fill.{listed}
use Rattle.laws.proofs.Choice.{pick_yes, pick_no}
use Rattle.laws.proofs.Fill.{put_block}
use Rattle.laws.proofs.Cuts.{mapped_append}
use Rattle.digits.specs.Digits.{digit_value, is_digit, digit_byte, upper, number, digits, with_digits}
use Rattle.digits.proofs.Digit.{value_limit, value_of_byte, byte_last}
use Rattle.digits.proofs.Upper.{same_value, byte_back, byte_upper, upper_twice, upper_at_lem}

-- One digit more.
pub number_more : (bytes : List ℕ) (at count : ℕ)
    → number bytes at (count + 1) ≡ number bytes at count * 16 + digit_value (get_or bytes (at + count) 0)
unfolding number
number_more bytes at count = rw add-one

-- However the bytes look, a number stays below 2 × 16 ^ count.
number_limit : (bytes : List ℕ) (at count : ℕ) → number bytes at count + 2 ≤ 2 * 16 ^ count
unfolding number
number_limit bytes at zero = omega arith
number_limit bytes at (suc count) =
    omega (arith, number_limit bytes at count, value_limit (get_or bytes (at + count) 0), pow-suc 16 count)

-- So a number of up to six digits is far from filling 32 bits.
pub number_small : (bytes : List ℕ) (at count : ℕ) → count ≤ 6 → number bytes at count < 2 ^ 25
number_small bytes at count few =
    let powers : 16 ^ count ≤ 16 ^ 6 = pow-le-pow_right (omega arith) few in
    omega (arith, number_limit bytes at count)

-- A number of digit bytes is below 16 ^ count.
pub number_below : (bytes : List ℕ) (at count : ℕ) → ((i : ℕ) → i < count → is_digit (get_or bytes (at + i) 0) ≡ true)
    → number bytes at count < 16 ^ count
unfolding number is_digit
number_below bytes at zero each = omega arith
number_below bytes at (suc count) each =
    omega (
      arith,
      number_below bytes at count (λ i h. each i (le_step h)),
      ltb-true (digit_value (get_or bytes (at + count) 0)) 16 (each count (lt-suc_self count)),
      pow-suc 16 count,
    )

-- Bytes that are the same in upper case, wherever they stand, say the same number.
pub number_alike : (bytes others : List ℕ) (at there count : ℕ)
    → ((i : ℕ) → i < count → upper (get_or bytes (at + i) 0) ≡ upper (get_or others (there + i) 0)) → number bytes at count ≡ number others there count
unfolding number
number_alike bytes others at there zero each = refl
number_alike bytes others at there (suc count) each =
    ap₂ (λ (sum value : ℕ). sum * 16 + value) (number_alike bytes others at there count (λ i h. each i (le_step h)))
    (same_value (get_or bytes (at + count) 0) (get_or others (there + count) 0) (each count (lt-suc_self count)))

-- All the more the same bytes.
pub number_same : (bytes others : List ℕ) (at there count : ℕ)
    → ((i : ℕ) → i < count → get_or bytes (at + i) 0 ≡ get_or others (there + i) 0) → number bytes at count ≡ number others there count
number_same bytes others at there count each = number_alike bytes others at there count (λ i h. ap upper (each i h))

-- Bytes in upper case say what they said.
pub number-upper : (bytes : List ℕ) (at count : ℕ) → number (map upper bytes) at count ≡ number bytes at count
number-upper bytes at count =
    number_alike (map upper bytes) bytes at at count (λ i h. ap upper (upper_at_lem bytes (at + i)) ∙ upper_twice (get_or bytes (at + i) 0))

-- As many digits as asked for.
pub digits-length : (count value : ℕ) → length (digits count value) ≡ count
unfolding digits
digits-length zero value = refl
digits-length (suc count) value =
    omega (arith, length-append (digits count (value / 16)) (digit_byte value ∷ []), digits-length count (value / 16))

-- All of them in upper case.
pub digits-upper : (count value : ℕ) → map upper (digits count value) ≡ digits count value
unfolding digits
digits-upper zero value = refl
digits-upper (suc count) value =
    mapped_append upper (digits count (value / 16)) (digit_byte value ∷ []) (digits-upper count (value / 16)) (ap (λ (b : ℕ). b ∷ []) (byte_upper value))

-- The last digit, and those before it.
digits_last : (count value : ℕ) → get_or (digits (suc count) value) count 0 ≡ digit_byte value
unfolding digits
digits_last count value = get_or_at (digits count (value / 16)) (digit_byte value) [] 0 count (digits-length count (value / 16))

digits_before : (count value i : ℕ) → i < count → get_or (digits (suc count) value) i 0 ≡ get_or (digits count (value / 16)) i 0
unfolding digits
digits_before count value i h = get_or-append (digits count (value / 16)) (digit_byte value ∷ []) 0 i (rw digits-length h)

-- Where the digits of a value stand, the number is the value.
pub number_of_digits : (bytes : List ℕ) (at count value : ℕ) → value < 16 ^ count
    → ((i : ℕ) → i < count → get_or bytes (at + i) 0 ≡ get_or (digits count value) i 0) → number bytes at count ≡ value
unfolding number
number_of_digits bytes at zero value small each = omega arith
number_of_digits bytes at (suc count) value small each =
    let front : number bytes at count ≡ value / 16 =
    number_of_digits bytes at count (value / 16) ((div-lt_iff_lt-mul (omega arith)).1 (omega (arith, pow-suc 16 count)))
    (λ i h. each i (le_step h) ∙ digits_before count value i h) in
    let last : digit_value (get_or bytes (at + count) 0) ≡ value % 16 =
    ap digit_value (each count (lt-suc_self count) ∙ digits_last count value) ∙ value_of_byte value in
    omega arith

-- The digits of a number that was read are the bytes that it was read from, each in upper case.
pub digits_of_number : (bytes : List ℕ) (at count : ℕ) → ((i : ℕ) → i < count → is_digit (get_or bytes (at + i) 0) ≡ true)
    → digits count (number bytes at count) ≡ listed (λ i. upper (get_or bytes (at + i) 0)) count
unfolding number digits listed is_digit
digits_of_number bytes at zero each = refl
digits_of_number bytes at (suc count) each =
    let byte = get_or bytes (at + count) 0 in
    let small : digit_value byte < 16 = ltb-true (digit_value byte) 16 (each count (lt-suc_self count)) in
    let front : (number bytes at count * 16 + digit_value byte) / 16 ≡ number bytes at count = digits_div (number bytes at count) small in
    let last : digit_byte (number bytes at count * 16 + digit_value byte) ≡ upper byte =
    sym (byte_last (number bytes at count * 16 + digit_value byte))
    ∙ ap digit_byte (digits_mod (number bytes at count) small)
    ∙ byte_back byte (each count (lt-suc_self count)) in
    ap₂ (λ (l : List ℕ) (b : ℕ). l ++ (b ∷ []))
    (ap (digits count) front ∙ digits_of_number bytes at count (λ i h. each i (le_step h)))
    last

-- Storing the last digit in front of those stored already.
pub digits_store : (out : List ℕ) (left rest : ℕ) → 0 < left → left ≤ length out
    → digits (left - 1) (rest / 16) ++ drop (left - 1) (set out (left - 1) (digit_byte rest)) ≡ digits left rest ++ drop left out
unfolding digits
digits_store out zero rest some_left inside = absurd (omega arith)
digits_store out (suc before) rest some_left inside =
    let same : suc before - 1 ≡ before = omega arith in
    rw (same, set_split out before (digit_byte rest) inside, drop_at (take before out) (digit_byte rest ∷ drop (suc before) out) before (length-take-le before out (omega arith)))
    (sym (append_snoc (digits before (rest / 16)) (digit_byte rest) (drop (suc before) out)))

-- Digits that have room stand in their place, and digits that have none are not written.
pub digits_with_room : (out : List ℕ) (at count value : ℕ) → at + count ≤ length out
    → with_digits at count value out ≡ take at out ++ (digits count value ++ drop (at + count) out)
unfolding with_digits
digits_with_room out at count value room = pick_yes _ _ _ (le-leb (at + count) (length out) room)

pub digits_without_room : (out : List ℕ) (at count value : ℕ) → length out < at + count → with_digits at count value out ≡ out
unfolding with_digits
digits_without_room out at count value short = pick_no _ _ _ (lt-leb (at + count) (length out) short)

-- A lent part that was filled with digits, back in its place.
pub part_filled : (out part : List ℕ) (at count value : ℕ) → at + count ≤ length out
    → part ≡ digits (length (take (at + count - at) (drop at out))) value
    → take at out ++ (part ++ drop (at + count - at) (drop at out)) ≡ with_digits at count value out
part_filled out part at count value room filled =
    let size : at + count - at ≡ count = omega arith in
    let whole : length (take (at + count - at) (drop at out)) ≡ count =
    rw size (length-take-le count (drop at out) (rw length-drop (omega arith))) in
    rw (filled, whole, size, drop-drop count at out) (sym (digits_with_room out at count value room))

-- Digits put behind a front: the front has grown by them, and what lies behind is as it was.
pub digits_behind : (front l : List ℕ) (at count value : ℕ) → length front ≡ at → at + count ≤ length l
    → with_digits at count value (front ++ drop at l) ≡ (front ++ digits count value) ++ drop (at + count) l
digits_behind front l at count value size room =
    digits_with_room (front ++ drop at l) at count value (rw (length-append, length-drop) (omega arith))
    ∙ ap (λ (rest : List ℕ). take at (front ++ drop at l) ++ (digits count value ++ rest)) (sym (drop-drop count at (front ++ drop at l)))
    ∙ put_block front (digits count value) l at count size (digits-length count value)
