-- Functions under falling lines: the least of two, a sum, and how long the sum stays below what falls beside it.
use Prim.Native.Nat.{ℕ, ◌+◌, ◌*◌, ◌-◌, ◌≤◌, ◌<◌, min}
use native.Mathlib.Nat.{le_trans, mul-le-mul, le_refl, mul-add}
use native.Mathlib.Omega.{arith}
use Rattle.laws.specs.Inner.{Under}

-- Anything smaller lies under the same line.
pub under_smaller : (f g : ℕ → ℕ) (value slope steps : ℕ) → ((t : ℕ) → t < steps → g t ≤ f t) → Under f value slope steps
    → Under g value slope steps
under_smaller f g value slope steps smaller under t h = omega (arith, smaller t h, under t h)

-- Fewer steps ask less.
pub under_fewer : (f : ℕ → ℕ) (value slope steps fewer : ℕ) → fewer ≤ steps → Under f value slope steps → Under f value slope fewer
under_fewer f value slope steps fewer less under t h = under t (le_trans h less)

-- A sum lies under the sum of the lines while both last.
pub under_add : (f g : ℕ → ℕ) (v s l v' s' l' : ℕ) → Under f v s l → Under g v' s' l'
    → Under (λ t. f t + g t) (v + v') (s + s') (min l l')
under_add f g v s l v' s' l' first second t h =
    let early : t < l = omega arith in
    let soon : t < l' = omega arith in
    omega (arith, first t early, second t soon, mul-add t s s')

-- A function under a line stays below what falls by `pull` a step, for as many steps as what is left at the start holds of the difference.
pub stays_below : (f : ℕ → ℕ) (value slope steps pull room : ℕ) → Under f value slope steps → value < room → (t : ℕ) → t < steps
    → t * (pull - slope) ≤ room - 1 - value → f t + t * pull < room
stays_below f value slope steps pull room under begins t h within =
    let whole : t * pull ≤ t * (slope + (pull - slope)) = mul-le-mul (le_refl t) (omega arith) in
    omega (arith, under t h, mul-add t slope (pull - slope))
