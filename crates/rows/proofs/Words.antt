-- What stands in lent words, by place: definitions put side by side.
use mathlib.Core.Path.{◌≡◌, refl, sym}
use mathlib.Core.Bool.{not}
use mathlib.Core.List.{List}
use mathlib.Core.Option.{Option, none, some}
use Prim.Native.Nat.{ℕ, zero, suc, ◌+◌, ◌*◌, ◌≤◌}
use native.Mathlib.Omega.{arith}
use lib.ListN.{get_or}
use Rattle.model.specs.Sheet.{triples, row_allowed_at}
use Rattle.std.specs.declared.option.Option.TheVariants.{Some, None}
use Rattle.rows.specs.Words.{sheet_of, outside, found_of, bound_or, found_from}

-- The cost, the deadline and the period of row k are words 3k, 3k + 1 and 3k + 2.
pub cost_word : (words : List ℕ) (k : ℕ) → (sheet_of words).cost k ≡ get_or words (3 * k) 0
unfolding sheet_of triples
cost_word words k = refl

pub deadline_word : (words : List ℕ) (k : ℕ) → (sheet_of words).deadline k ≡ get_or words (3 * k + 1) 0
unfolding sheet_of triples
deadline_word words k = refl

pub period_word : (words : List ℕ) (k : ℕ) → (sheet_of words).period k ≡ get_or words (3 * k + 2) 0
unfolding sheet_of triples
period_word words k = refl

-- The same read back: `Some` of a number is that number, and `None` is none.
pub found_some : (o : Option ℕ) (k : ℕ) → found_of o ≡ Some k → o ≡ some k
unfolding found_of
found_some none k same = let never : ◌≡◌ {A = ℕ} 0 1 = cc in absurd (omega arith)
found_some (some j) k same = cc

pub found_none : (o : Option ℕ) → found_of o ≡ None → o ≡ none
unfolding found_of
found_none none same = refl
found_none (some j) same = let never : ◌≡◌ {A = ℕ} 0 1 = cc in absurd (omega arith)

-- A row's sizes do not depend on how many rows are counted.
pub counted_anyhow : (n : ℕ) (words : List ℕ) (k : ℕ) → outside (triples n words) k ≡ not (row_allowed_at (sheet_of words) k)
unfolding outside sheet_of triples row_allowed_at
counted_anyhow n words k = refl

-- A number that is not 0 is a bound.
pub found_positive : (bound : ℕ) → (bound ≡ 0 → ⊥) → Some bound ≡ found_from bound
unfolding found_from
found_positive zero positive = absurd (positive refl)
found_positive (suc k) positive = refl

-- An answer whose bound is not 0 is told by one number.
pub found_back : (o : Option ℕ) → ((k : ℕ) → o ≡ some k → 1 ≤ k) → found_from (bound_or (found_of o) 0) ≡ found_of o
unfolding found_from bound_or found_of
found_back none positive = refl
found_back (some k) positive = sym (found_positive k (λ none_left. absurd (omega (arith, positive k refl))))
