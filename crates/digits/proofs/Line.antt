-- A line written from its front: digits are put behind what stands there already, and its last byte ends it.
use mathlib.Core.Path.{◌≡◌, refl, ◌∙◌, ap}
use mathlib.Core.List.{List, [], ◌∷◌, ◌++◌, map}
use Prim.Native.Nat.{ℕ, suc, ◌+◌, ◌≤◌, ◌<◌}
use native.Mathlib.Omega.{arith}
use lib.ListN.{length, get_or, drop, set, length-append, length-drop, drop_of_length-le}
use lib.Seq.{drop-cons, set_at}
use Rattle.laws.proofs.Cuts.{mapped_append}
use Rattle.digits.specs.Digits.{upper, digits, with_digits}
use Rattle.digits.proofs.Upper.{upper_stays}
use Rattle.digits.proofs.Number.{digits-length, digits-upper, digits_behind}

-- A line in the making: the front is written up to `at`, and behind it stands what stood there before.
pub record Begun (before front : List ℕ) (at : ℕ) (now : List ℕ) : Type 0 where
  pub size : length front ≡ at
  pub stands : now ≡ front ++ drop at before

-- A line with nothing written yet.
pub not_begun : (before : List ℕ) → Begun before [] 0 before
not_begun before = record { size = refl; stands = refl }

-- Digits put behind the front.
pub with_digits_lem : {before front now next : List ℕ} {at : ℕ} (count value : ℕ) → Begun before front at now → at + count ≤ length before
    → next ≡ with_digits at count value now → Begun before (front ++ digits count value) (at + count) next
with_digits_lem {before} {front} {now} {next} {at} count value begun room put =
    record {
      size = length-append front (digits count value) ∙ rw (begun.size, digits-length count value);
      stands = put ∙ ap (with_digits at count value) begun.stands ∙ digits_behind front before at count value begun.size room;
    }

-- Digits put behind a front in upper case, and 0A behind them: all of it is in upper case.
pub with_digits-upper : (front : List ℕ) (count value : ℕ) → map upper front ≡ front
    → map upper (front ++ digits count value) ≡ front ++ digits count value
with_digits-upper front count value same = mapped_append upper front (digits count value) same (digits-upper count value)

pub line-upper : (front : List ℕ) → map upper front ≡ front → map upper (front ++ (0x0A ∷ [])) ≡ front ++ (0x0A ∷ [])
line-upper front same = mapped_append upper front (0x0A ∷ []) same (ap (λ (b : ℕ). b ∷ []) (upper_stays 0x0A (λ above below. omega arith)))

-- The last byte of a line in the making is inside it, and stored there it leaves the length as it was.
pub end_inside : {before front now : List ℕ} {at : ℕ} → Begun before front at now → length before ≡ at + 1 → at < length now
end_inside {before} {front} {now} {at} begun full =
    let size : length front ≡ at = begun.size in
    rw (begun.stands, length-append front (drop at before), length-drop at before) (omega arith)

-- The last byte ends the line.
pub line-ended : {before front now : List ℕ} {at : ℕ} (byte : ℕ) → Begun before front at now → length before ≡ at + 1
    → set now at byte ≡ front ++ (byte ∷ [])
line-ended {before} {front} {now} {at} byte begun full =
    let last : at < length before = omega arith in
    rw (begun.stands, drop-cons before at 0 last, drop_of_length-le before {i = suc at} (omega arith))
    (set_at front (get_or before at 0) [] byte at begun.size)
