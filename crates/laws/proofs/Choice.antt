-- Laws of a choice by a test, and of answers that may be missing.
use mathlib.Core.Path.{◌≡◌, refl, sym, ◌∙◌, ap}
use mathlib.Core.Bool.{Bool, true, false, ◌&&◌}
use mathlib.Core.Option.{Option, none, some}
use Prim.Native.Nat.{ℕ, ◌≤◌}
use native.Mathlib.Nat.{le_refl, le_trans, le_antisymm}
use native.Mathlib.Omega.{arith}
use borrow.Author.Tests.{eq-eqb, ne_eqb, eqb-true}
use lib.Dec.{eqb}
use Rattle.laws.specs.Choice.{pick, unless_refused, or_else, is_some, Better}

-- A test does not both pass and fail.
pub never_both : {test : Bool} → test ≡ true → test ≡ false → ⊥
never_both passed failed = let same : ◌≡◌ {A = ℕ} 0 1 = cc in omega arith

-- Where the test holds the choice is the first.
pub pick_yes : {A : Type 0} (test : Bool) (a b : A) → test ≡ true → pick test a b ≡ a
pick_yes test a b yes_it_is = rw yes_it_is

-- Where it does not, the second.
pub pick_no : {A : Type 0} (test : Bool) (a b : A) → test ≡ false → pick test a b ≡ b
pick_no test a b no_it_is = rw no_it_is

-- With number 0 the answer is what was worked out; with any other it is the refused one.
pub not-refused : {A : Type 0} (number : ℕ) (refused worked : A) → number ≡ 0 → unless_refused number refused worked ≡ worked
unfolding unless_refused
not-refused number refused worked none_holds = pick_yes _ worked refused (eq-eqb number 0 none_holds)

pub is_refused : {A : Type 0} (number : ℕ) (refused worked : A) → (number ≡ 0 → ⊥) → unless_refused number refused worked ≡ refused
unfolding unless_refused
is_refused number refused worked one_holds = pick_no _ worked refused (ne_eqb number 0 one_holds)

-- Two results that one definition allows are equal.
pub one_answer : {A : Type 0} {definition first second : A} → first ≡ definition → second ≡ definition → first ≡ second
one_answer h k = h ∙ sym k

-- What does not see a change says the same of two that are the same after it.
pub same_after : {A B : Type 0} (change : A → A) (said : A → B) → ((x : A) → said (change x) ≡ said x) → (x y : A) → change x ≡ change y
    → said x ≡ said y
same_after change said unseen x y same = sym (unseen x) ∙ ap said same ∙ unseen y

-- Where both hold, each does; and the other way round.
pub and_left : (a b : Bool) → (a && b) ≡ true → a ≡ true
and_left true b h = refl
and_left false b h = h

pub and_right : (a b : Bool) → (a && b) ≡ true → b ≡ true
and_right true b h = h
and_right false b h = absurd (never_both h refl)

pub and_both : (a b : Bool) → a ≡ true → b ≡ true → (a && b) ≡ true
and_both true b h k = k
and_both false b h k = h

-- A test that fails decides, and one that holds leaves it to the other.
pub and_fails : (a b : Bool) → a ≡ false → (a && b) ≡ false
and_fails a b failed = rw failed

pub and_holds : (a b : Bool) → a ≡ true → (a && b) ≡ b
and_holds a b held = rw held

-- An answer is as good as itself.
pub better_refl : (a : Option ℕ) → Better a a
better_refl none = tt
better_refl (some x) = le_refl x

-- Better than better is better.
pub better_trans : (a b c : Option ℕ) → Better a b → Better b c → Better a c
better_trans none none none h k = tt
better_trans none none (some z) h k = k
better_trans none (some y) c h k = absurd h
better_trans (some x) none none h k = tt
better_trans (some x) none (some z) h k = absurd k
better_trans (some x) (some y) none h k = tt
better_trans (some x) (some y) (some z) h k = le_trans h k

-- Two answers, each better than the other, are the same.
pub better_antisymm : (a b : Option ℕ) → Better a b → Better b a → a ≡ b
better_antisymm none none h k = refl
better_antisymm none (some y) h k = absurd h
better_antisymm (some x) none h k = absurd k
better_antisymm (some x) (some y) h k = ap {B = Option ℕ} some (le_antisymm h k)

-- An answer better than whatever number another gives is better than it.
pub better_where : (a b : Option ℕ) → ((x : ℕ) → b ≡ some x → Better a (some x)) → Better a b
better_where none none each = tt
better_where (some x) none each = tt
better_where a (some y) each = each y refl

-- Where the worse answer exists, so does the better one.
pub better_exists : (a b : Option ℕ) → Better a b → is_some b ≡ true → is_some a ≡ true
better_exists none none h there = there
better_exists none (some y) h there = absurd h
better_exists (some x) b h there = refl

-- With the other number no smaller than the better answer, better is no larger.
pub better_or_else : (a b : Option ℕ) (other : ℕ) → Better a b → ((x : ℕ) → a ≡ some x → x ≤ other) → or_else a other ≤ or_else b other
better_or_else none none other h within = le_refl other
better_or_else none (some y) other h within = absurd h
better_or_else (some x) none other h within = within x refl
better_or_else (some x) (some y) other h within = h

-- An answer that carries the refusal's number, 0 where there is none, carries it either way.
pub number_kept : {A : Type 0} (carried : A → ℕ) (number : ℕ) (refused worked : A) → carried refused ≡ number → carried worked ≡ 0
    → carried (unless_refused number refused worked) ≡ number
unfolding unless_refused
number_kept {A} carried number refused worked carries zero = split (eqb number 0) refl
  where
    split : (b : Bool) → eqb number 0 ≡ b → carried (pick b worked refused) ≡ number
    split true is_zero = zero ∙ sym (eqb-true number 0 is_zero)
    split false not-zero = carries

-- What is 0 in a refused answer is 0 wherever the number is not.
pub zero_where_refused : {A : Type 0} (carried part : A → ℕ) (number : ℕ) (refused worked : A) → carried worked ≡ 0 → part refused ≡ 0
    → (carried (unless_refused number refused worked) ≡ 0 → ⊥) → part (unless_refused number refused worked) ≡ 0
unfolding unless_refused
zero_where_refused {A} carried part number refused worked worked_zero part_zero = split (eqb number 0)
  where
    split : (b : Bool) → (carried (pick b worked refused) ≡ 0 → ⊥) → part (pick b worked refused) ≡ 0
    split true one_holds = absurd (one_holds worked_zero)
    split false one_holds = part_zero
