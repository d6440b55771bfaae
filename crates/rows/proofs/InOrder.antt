-- The checks as code makes them, each only where those before it passed: the first that refuses gives the definition's refusal.
use mathlib.Core.Path.{◌≡◌, refl, sym, ◌∙◌, ap}
use mathlib.Core.Bool.{Bool}
use mathlib.Core.List.{List, ◌∷◌}
use Prim.Native.Nat.{ℕ}
use native.Mathlib.Omega.{arith}
use Rattle.std.specs.Prelude.{Result, Err, IsErrAnd}
use Rattle.std.proofs.lemmas.Result.{err_from_is_err_and}
use lib.Dec.{eqb}
use Rattle.laws.specs.Choice.{pick, unless_refused}
use Rattle.laws.proofs.Choice.{is_refused, not-refused}
use Rattle.refusals.specs.declared.Refusal.{Refusal as Why}
use Rattle.refusals.specs.declared.Refusal.TheVariants.{Byte, Layout, Rows, Processors, Method, Limit, Room, Sizes, Question}
use Rattle.refusals.specs.Refusals.{Refusal, refused, not_refused}
use Rattle.refusals.specs.Told.{told}
use Rattle.rows.specs.Words.{first_outside}
use Rattle.rows.specs.Checks.{first_of, first_held, rows_refusal, laid_refusal}
use Rattle.rows.specs.Layouts.{Lent, shape_refusal}
use Rattle.rows.proofs.Fold.{next_decides, first_decides}
use Rattle.rows.proofs.Checks.{by_number, shape_refused}

-- A refusal has a number.
pub numbered : (why : Why) → (told why).number ≡ 0 → ⊥
numbered (Byte offset) zero = absurd (omega arith)
numbered Layout zero = absurd (omega arith)
numbered Rows zero = absurd (omega arith)
numbered Processors zero = absurd (omega arith)
numbered Method zero = absurd (omega arith)
numbered Limit zero = absurd (omega arith)
numbered Room zero = absurd (omega arith)
numbered (Sizes row) zero = absurd (omega arith)
numbered Question zero = absurd (omega arith)

-- A check that passed has number 0; one that refused has not.
pub passed : (number : ℕ) → not_refused ≡ refused number 0 → number ≡ 0
passed number same = sym (ap (λ (r : Refusal). r.number) same)

pub held : (why : Why) (number : ℕ) → told why ≡ refused number 0 → number ≡ 0 → ⊥
held why number same zero = numbered why (ap (λ (r : Refusal). r.number) same ∙ zero)

-- The first of two checks that refuses is the first that holds.
pub first_here : (why : Why) (first second : ℕ) → told why ≡ refused first 0 → told why ≡ refused (first_of first second) 0
first_here why first second same =
    same ∙ ap (λ (n : ℕ). refused n 0) (sym (first_decides first second (held why first same)))

pub first_later : (r : Refusal) (first second : ℕ) → first ≡ 0 → r ≡ refused second 0 → r ≡ refused (first_of first second) 0
first_later r first second zero same = same ∙ ap (λ (n : ℕ). refused n 0) (sym (next_decides first second zero))

-- And so of several.
pub held_here : (why : Why) (check : ℕ) (later : List ℕ) → told why ≡ refused check 0 → told why ≡ refused (first_held (check ∷ later)) 0
unfolding first_held
held_here why check later same = first_here why check (first_held later) same

pub held_later : (r : Refusal) (check : ℕ) (later : List ℕ) → check ≡ 0 → r ≡ refused (first_held later) 0 → r ≡ refused (first_held (check ∷ later)) 0
unfolding first_held
held_later r check later zero same = first_later r check (first_held later) zero same

module _ (lent : Lent) (own : ℕ) where
  -- 2 or 3 comes first.
  pub by_shape : (why : Why) → told why ≡ refused (shape_refusal lent) 0 → told why ≡ laid_refusal lent.broken lent.sheet own
  by_shape why same = same ∙ sym (shape_refused lent own (held why _ same))

  -- Then the entry's own checks.
  pub by_own : (why : Why) → shape_refusal lent ≡ 0 → told why ≡ refused own 0 → told why ≡ laid_refusal lent.broken lent.sheet own
  by_own why shaped same =
      let first = next_decides (shape_refusal lent) own shaped in
      same
      ∙ ap (λ (n : ℕ). refused n 0) (sym first)
      ∙ sym (by_number lent own ∙ is_refused _ _ _ (λ zero. held why own same (sym first ∙ zero)))

  -- Then the sizes, whether they refuse or not.
  pub by_sizes : (r : Refusal) → shape_refusal lent ≡ 0 → own ≡ 0 → r ≡ rows_refusal (first_outside lent.sheet) → r ≡ laid_refusal lent.broken lent.sheet own
  by_sizes r shaped zero same =
      same ∙ sym (by_number lent own ∙ not-refused _ _ _ (next_decides (shape_refusal lent) own shaped ∙ zero))

-- What `?` hands on is what the check refused with.
pub ended : {A : Type 0} (r : Result A Why) (why : Why) → IsErrAnd r (λ y. y ≡ why) → r ≡ Err why
ended r why handed = let p = err_from_is_err_and r handed in rw (p.1, p.2)

-- Whatever says a refusal: it says it where there is one, and what was worked out where there is none.
pub refused_so : {A : Type 0} (say : Refusal → A) (why : Why) (refusal : Refusal) (worked : A) → told why ≡ refusal
    → say (told why) ≡ unless_refused refusal.number (say refusal) worked
refused_so say why refusal worked same =
    ap say same ∙ sym (is_refused _ _ _ (λ zero. numbered why (ap (λ (r : Refusal). r.number) same ∙ zero)))

-- Nothing is lost in numbers: a refusal is known by them.
known : Refusal → Why
known r =
    let is : ℕ → Bool = eqb r.number in
    pick (is 1) (Byte r.place)
    (pick (is 2) Layout
    (pick (is 3) Rows
    (pick (is 4) Processors (pick (is 5) Method (pick (is 6) Limit (pick (is 7) Room (pick (is 8) (Sizes r.place) Question)))))))

known_again : (why : Why) → known (told why) ≡ why
unfolding known
known_again (Byte offset) = refl
known_again Layout = refl
known_again Rows = refl
known_again Processors = refl
known_again Method = refl
known_again Limit = refl
known_again Room = refl
known_again (Sizes row) = refl
known_again Question = refl

pub told_fixed : (why other : Why) → told why ≡ told other → why ≡ other
told_fixed why other same = sym (known_again why) ∙ ap known same ∙ known_again other
