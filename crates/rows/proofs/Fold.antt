-- The first check that holds decides: the fold is 0 exactly where none holds, and code makes it from the last check up.
use mathlib.Core.Path.{◌≡◌, refl, ◌∙◌}
use mathlib.Core.Bool.{Bool, true, false}
use mathlib.Core.List.{List, [], ◌∷◌}
use Prim.Native.Nat.{ℕ}
use borrow.Author.Tests.{eq-eqb, ne_eqb, eqb-true, eqb-false}
use lib.Dec.{eqb}
use Rattle.laws.specs.Choice.{pick}
use Rattle.laws.proofs.Choice.{pick_yes, pick_no}
use Rattle.rows.specs.Checks.{first_of, first_held}
use Rattle.rows.specs.Inner.{NoneHold}

-- The first of two checks is 0 only where both are.
pub first_of_zero : (first second : ℕ) → first_of first second ≡ 0 → (first ≡ 0) × (second ≡ 0)
unfolding first_of
first_of_zero first second zero = split (eqb first 0) refl zero
  where
    split : (b : Bool) → eqb first 0 ≡ b → pick b second first ≡ 0 → (first ≡ 0) × (second ≡ 0)
    split true is_zero zero = (eqb-true first 0 is_zero, zero)
    split false not-zero zero = absurd (eqb-false first 0 not-zero zero)

-- A check that does not hold leaves it to the next.
pub next_decides : (first second : ℕ) → first ≡ 0 → first_of first second ≡ second
unfolding first_of
next_decides first second zero = pick_yes _ _ _ (eq-eqb first 0 zero)

-- A check that holds is the first.
pub first_decides : (first second : ℕ) → (first ≡ 0 → ⊥) → first_of first second ≡ first
unfolding first_of
first_decides first second held = pick_no _ _ _ (ne_eqb first 0 held)

-- The first of several is 0 exactly where none holds.
pub none_held : (checks : List ℕ) → first_held checks ≡ 0 → NoneHold checks
unfolding first_held
none_held [] zero = tt
none_held (check ∷ later) zero =
    let both = first_of_zero check (first_held later) zero in
    (both.0, none_held later both.1)

pub held_none : (checks : List ℕ) → NoneHold checks → first_held checks ≡ 0
unfolding first_held
held_none [] none_hold = refl
held_none (check ∷ later) none_hold = next_decides check (first_held later) none_hold.0 ∙ held_none later none_hold.1

-- A first check that does not hold leaves it to the others.
pub others_pass : (check : ℕ) (later : List ℕ) → check ≡ 0 → first_held (check ∷ later) ≡ first_held later
unfolding first_held
others_pass check later zero = next_decides check (first_held later) zero

-- The fold as code makes it, from the last check up: the last by itself, then each before those that are folded already.
pub held_last : (check : ℕ) {given : ℕ} → given ≡ check → given ≡ first_held (check ∷ [])
unfolding first_held first_of
held_last check {given} is_check = is_check ∙ split (eqb check 0) refl
  where
    split : (b : Bool) → eqb check 0 ≡ b → check ≡ pick b 0 check
    split true is_zero = eqb-true check 0 is_zero
    split false not-zero = refl

pub held_more : (check : ℕ) (later : List ℕ) {given rest whole : ℕ} → given ≡ check → rest ≡ first_held later → whole ≡ first_of given rest
    → whole ≡ first_held (check ∷ later)
unfolding first_held
held_more check later {given} {rest} {whole} is_check is_rest is_whole = rw (is_check, is_rest) at is_whole
