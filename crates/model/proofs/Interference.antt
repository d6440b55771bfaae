-- Smaller bounds interfere less, and a longer window holds more: share, work and both right sides keep order, with no side condition,
-- since subtraction stops at 0 and division by 0 is 0.
use mathlib.Core.Path.{◌≡◌}
use mathlib.Core.List.{List}
use mathlib.Core.Logic.{⊎_elim}
use Prim.Native.Nat.{ℕ, suc, ◌+◌, ◌*◌, ◌-◌, ◌/◌, ◌≤◌, ◌<◌}
use native.Mathlib.Nat.{add-le-add, eq-or-lt_of_le, le_refl, suc-mul, mul-le-mul_right}
use native.Mathlib.Omega.{arith}
use lib.ListN.{get_or}
use Rattle.laws.specs.Sum.{unless}
use Rattle.laws.specs.Fill.{Below}
use Rattle.laws.specs.Climb.{Monotone}
use Rattle.laws.proofs.Order.{div_mono, min_mono}
use Rattle.laws.proofs.Sum.{total_mono, unless_mono}
use Rattle.model.specs.Sheet.{Sheet}
use Rattle.model.specs.Interference.{share, carried, work, share_of, work_of, others, bcl_term, bcl_value, rta_term, rta_right}

-- A smaller bound leaves a larger slack, and so a smaller share.
pub share_mono : (c d t w r r' : ℕ) → r ≤ r' → share c d t r w ≤ share c d t r' w
unfolding share
share_mono c d t w r r' h = omega arith

-- More time holds more work: within one period compare what is left of it, over a period's end at least one whole cost is added.
pub carried_mono : (c t y y' : ℕ) → y ≤ y' → carried c t y ≤ carried c t y'
unfolding carried
carried_mono c t y y' h =
    ⊎_elim (λ (same : y / t ≡ y' / t). rw same (omega arith))
    (λ (fewer : y / t < y' / t).
    let whole : suc (y / t) * c ≤ y' / t * c = mul-le-mul_right c fewer in
    omega (arith, suc-mul (y / t) c))
    (eq-or-lt_of_le (div_mono t h))

-- Work grows with the bound and with the window.
pub work_mono : (c t r r' l l' : ℕ) → r ≤ r' → l ≤ l' → work c t r l ≤ work c t r' l'
unfolding work
work_mono c t r r' l l' bound window = carried_mono c t (l + r - c) (l' + r' - c) (omega arith)

-- A sum over every other place keeps order.
pub others_mono : (s : Sheet) (k : ℕ) (f g : ℕ → ℕ) → ((i : ℕ) → i < s.rows → f i ≤ g i) → others s k f ≤ others s k g
unfolding others
others_mono s k f g each = total_mono (unless k f) (unless k g) s.rows (λ i h. unless_mono k f g i (each i h))

module _ (s : Sheet) (k : ℕ) (Q R : List ℕ) (below : Below s.rows Q R) where
  -- Under smaller bounds every share is smaller.
  pub share_of_mono : (i : ℕ) → i < s.rows → share_of s k Q i ≤ share_of s k R i
  unfolding share_of
  share_of_mono i h = share_mono (s.cost i) (s.deadline i) (s.period i) (s.deadline k) (get_or Q i 0) (get_or R i 0) (below i h)

  -- Under smaller bounds and in a shorter window there is less work.
  pub work_of_mono : (x y i : ℕ) → x ≤ y → i < s.rows → work_of s Q x i ≤ work_of s R y i
  unfolding work_of
  work_of_mono x y i window h = work_mono (s.cost i) (s.period i) (get_or Q i 0) (get_or R i 0) x y (below i h) window

  -- BCL's value keeps order in the bounds.
  pub bcl_value_mono : (m : ℕ) → bcl_value s m k Q ≤ bcl_value s m k R
  unfolding bcl_value bcl_term
  bcl_value_mono m =
      add-le-add (le_refl (s.cost k))
      (div_mono m (others_mono s k (bcl_term s k Q) (bcl_term s k R) (λ i h. min_mono (share_of_mono i h) (le_refl _))))

  -- RTA's right side keeps order in the bounds and in X.
  pub rta_right_mono : (m x y : ℕ) → x ≤ y → rta_right s m k Q x ≤ rta_right s m k R y
  unfolding rta_right rta_term
  rta_right_mono m x y window =
      add-le-add (le_refl (s.cost k))
      (div_mono m
      (others_mono s k (rta_term s k Q x) (rta_term s k R y)
      (λ i h. min_mono (work_of_mono x y i window h) (min_mono (share_of_mono i h) (omega arith)))))

-- At fixed bounds RTA's right side is a function of X that keeps order.
pub rta_right_rises : (s : Sheet) (m k : ℕ) (R : List ℕ) → Monotone (rta_right s m k R)
rta_right_rises s m k R x y window = rta_right_mono s k R R (λ i h. le_refl (get_or R i 0)) m x y window

-- Both right sides begin at the cost.
pub rta_right_from_cost : (s : Sheet) (m k : ℕ) (R : List ℕ) (x : ℕ) → s.cost k ≤ rta_right s m k R x
unfolding rta_right
rta_right_from_cost s m k R x = omega arith

pub bcl_value_from_cost : (s : Sheet) (m k : ℕ) (R : List ℕ) → s.cost k ≤ bcl_value s m k R
unfolding bcl_value
bcl_value_from_cost s m k R = omega arith

-- At X no larger than BCL's value, and that within the deadline, RTA's right side is no larger than BCL's value: each term is capped lower.
pub rta_within_bcl : (s : Sheet) (m k : ℕ) (R : List ℕ) (x : ℕ) → x ≤ s.deadline k → rta_right s m k R x ≤ bcl_value s m k R
unfolding rta_right rta_term bcl_value bcl_term
rta_within_bcl s m k R x within =
    add-le-add (le_refl (s.cost k))
    (div_mono m (others_mono s k (rta_term s k R x) (bcl_term s k R) (λ i h. omega arith)))
