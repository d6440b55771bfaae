-- A ray is DOWN many times: within a step the rows go down one after the other, each allowed by its turn at the bounds it meets, and
-- the next step begins where the last row left off.
use mathlib.Core.Path.{◌≡◌, refl, sym, ◌∙◌, ap}
use mathlib.Core.List.{List}
use mathlib.Core.Logic.{⊎_elim}
use Prim.Native.Nat.{ℕ, zero, suc, ◌+◌, ◌*◌, ◌-◌, ◌≤◌, ◌<◌, zero-le}
use native.Mathlib.Nat.{le_refl, le_of_suc-le, suc-mul, mul-zero, lt-suc_self, eq-or-lt_of_le}
use native.Mathlib.Numerals.{add-one}
use native.Mathlib.Omega.{arith}
use borrow.Author.Count.{below_more}
use borrow.Author.Tests.{lt-ltb, le-ltb}
use lib.Dec.{ltb}
use lib.ListN.{length, get_or, set, length-set}
use lib.Seq.{ext_get_or, get_or-set_same, get_or-set_other, set-get_or}
use Rattle.laws.specs.Choice.{pick}
use Rattle.laws.specs.Fill.{listed, Below}
use Rattle.laws.proofs.Choice.{pick_yes, pick_no}
use Rattle.laws.proofs.Order.{below_or_from}
use Rattle.laws.proofs.Fill.{listed-length, listed_at, listed_same, listed_back}
use Rattle.model.specs.Sheet.{Sheet}
use Rattle.model.specs.Refine.{Ask, turn}
use Rattle.model.specs.Inner.{along, Falls, Held}
use Rattle.model.proofs.Refine.{Regular, down}

-- Within a step the first k rows have gone down: row i after t steps and its share of the next.
unfoldable pub within : List ℕ → List ℕ → ℕ → ℕ → ℕ → ℕ
within R drops k t i = pick (ltb i k) (get_or R i 0 - (t + 1) * get_or drops i 0) (get_or R i 0 - t * get_or drops i 0)

module _ (R drops : List ℕ) (k t i : ℕ) where
  pub within_gone : i < k → within R drops k t i ≡ get_or R i 0 - (t + 1) * get_or drops i 0
  unfolding within
  within_gone h = pick_yes _ _ _ (lt-ltb i k h)

  pub within_left : k ≤ i → within R drops k t i ≡ get_or R i 0 - t * get_or drops i 0
  unfolding within
  within_left h = pick_no _ _ _ (le-ltb i k h)

-- One step more is one drop more.
pub next_step : (t d : ℕ) → (t + 1) * d ≡ t * d + d
next_step t d = rw add-one (suc-mul t d)

-- The bounds at that place of the ray.
unfoldable pub stage : ℕ → List ℕ → List ℕ → ℕ → ℕ → List ℕ
stage n R drops k t = listed (within R drops k t) n

module _ (n : ℕ) (R drops : List ℕ) where
  stage_length : (k t : ℕ) → length (stage n R drops k t) ≡ n
  unfolding stage
  stage_length k t = listed-length (within R drops k t) n

  pub stage_at : (k t i : ℕ) → i < n → get_or (stage n R drops k t) i 0 ≡ within R drops k t i
  unfolding stage
  stage_at k t i h = listed_at (within R drops k t) n i h

  -- Row k put down is the next place.
  stage_next : (k t : ℕ) → k < n → set (stage n R drops k t) k (get_or R k 0 - (t + 1) * get_or drops k 0) ≡ stage n R drops (suc k) t
  stage_next k t h =
      let low = get_or R k 0 - (t + 1) * get_or drops k 0 in
      ext_get_or 0 (set (stage n R drops k t) k low) (stage n R drops (suc k) t)
      (length-set (stage n R drops k t) k low ∙ stage_length k t ∙ sym (stage_length (suc k) t))
      (λ i inside. each i (rw (length-set (stage n R drops k t) k low ∙ stage_length k t) at inside))
    where
      each : (i : ℕ) → i < n
          → get_or (set (stage n R drops k t) k (get_or R k 0 - (t + 1) * get_or drops k 0)) i 0 ≡ get_or (stage n R drops (suc k) t) i 0
      each i inside =
          ⊎_elim
          (λ (gone : i < k).
          get_or-set_other (stage n R drops k t) k i _ 0 (λ here. omega arith)
          ∙ stage_at k t i inside
          ∙ within_gone R drops k t i gone
          ∙ sym (within_gone R drops (suc k) t i (omega arith))
          ∙ sym (stage_at (suc k) t i inside))
          (λ (from : k ≤ i).
          ⊎_elim
          (λ (here : k ≡ i).
          rw (← here)
          (get_or-set_same (stage n R drops k t) k _ 0 (rw (stage_length k t) h)
          ∙ sym (within_gone R drops (suc k) t k (omega arith))
          ∙ sym (stage_at (suc k) t k h)))
          (λ (left : k < i).
          get_or-set_other (stage n R drops k t) k i _ 0 (λ here. omega arith)
          ∙ stage_at k t i inside
          ∙ within_left R drops k t i from
          ∙ sym (within_left R drops (suc k) t i left)
          ∙ sym (stage_at (suc k) t i inside))
          (eq-or-lt_of_le from))
          (below_or_from i k)

  -- A step begins with no row down, and ends with all.
  pub stage_first : (t : ℕ) → along n R drops t ≡ stage n R drops 0 t
  unfolding along stage
  stage_first t = listed_same _ (within R drops 0 t) n (λ i h. sym (within_left R drops 0 t i zero-le))

  pub stage_last : (t : ℕ) → stage n R drops n t ≡ along n R drops (t + 1)
  unfolding along stage
  stage_last t = listed_same (within R drops n t) _ n (λ i h. within_gone R drops n t i h)

  -- Steps from a place within the first step lead to the same place of a later one.
  pub stage_along : (k t : ℕ) → along n (stage n R drops k 0) drops t ≡ stage n R drops k t
  unfolding along stage
  stage_along k t = listed_same _ (within R drops k t) n each
    where
      each : (i : ℕ) → i < n → get_or (stage n R drops k 0) i 0 - t * get_or drops i 0 ≡ within R drops k t i
      each i h =
          ⊎_elim
          (λ (gone : i < k).
          let now : get_or (stage n R drops k 0) i 0 ≡ get_or R i 0 - (0 + 1) * get_or drops i 0 = stage_at k 0 i h ∙ within_gone R drops k 0 i gone in
          let later : within R drops k t i ≡ get_or R i 0 - (t + 1) * get_or drops i 0 = within_gone R drops k t i gone in
          omega (arith, next_step t (get_or drops i 0), next_step 0 (get_or drops i 0)))
          (λ (left : k ≤ i).
          let now : get_or (stage n R drops k 0) i 0 ≡ get_or R i 0 - 0 * get_or drops i 0 = stage_at k 0 i h ∙ within_left R drops k 0 i left in
          let later : within R drops k t i ≡ get_or R i 0 - t * get_or drops i 0 = within_left R drops k t i left in
          omega arith)
          (below_or_from i k)

-- No step leads nowhere.
pub along-none : (n : ℕ) (R drops : List ℕ) → length R ≡ n → along n R drops 0 ≡ R
unfolding along
along-none n R drops one_each = listed_same _ (λ i. get_or R i 0) n (λ i h. omega arith) ∙ listed_back R n one_each

-- Steps go down.
pub along_lower : (n : ℕ) (R drops : List ℕ) (t : ℕ) → Below n (along n R drops t) R
unfolding along
along_lower n R drops t i h = rw (listed_at (λ i. get_or R i 0 - t * get_or drops i 0) n i h) (omega arith)

-- A ray in progress: the rows before k have made the first step, and each of them that moves is allowed so many.
pub record OnRay (s : Sheet) (ask : Ask) (R drops : List ℕ) (k steps : ℕ) (now : List ℕ) : Type 0 where
  pub place : now ≡ stage s.rows R drops k 0
  pub held : Held s ask now
  pub allowed : (j : ℕ) → j < k → 1 ≤ get_or drops j 0 → (t : ℕ) → t < steps
      → turn s ask j (stage s.rows R drops j t) ≤ get_or R j 0 - (t + 1) * get_or drops j 0

module _ (s : Sheet) (ask : Ask) (regular : Regular s ask) (R drops : List ℕ) where
  -- Where a row's turn allows it, the row goes down.
  row_down : (k t : ℕ) → k < s.rows → Held s ask (stage s.rows R drops k t)
      → turn s ask k (stage s.rows R drops k t) ≤ get_or R k 0 - (t + 1) * get_or drops k 0 → Held s ask (stage s.rows R drops (suc k) t)
  row_down k t h held allowed =
      rw (← stage_next s.rows R drops k t h)
      (down s ask regular (stage s.rows R drops k t) k (get_or R k 0 - (t + 1) * get_or drops k 0) held h allowed
      (rw (stage_at s.rows R drops k t k h, within_left R drops k t k (le_refl k)) (omega (arith, next_step t (get_or drops k 0)))))

  -- A row without a drop is allowed to stay: its turn is not above its bound.
  allowed_anyhow : (k t : ℕ) → k < s.rows → Held s ask (stage s.rows R drops k t)
      → (1 ≤ get_or drops k 0 → turn s ask k (stage s.rows R drops k t) ≤ get_or R k 0 - (t + 1) * get_or drops k 0)
      → turn s ask k (stage s.rows R drops k t) ≤ get_or R k 0 - (t + 1) * get_or drops k 0
  allowed_anyhow k t h held allowed =
      ⊎_elim
      (λ (none : get_or drops k 0 < 1).
      let still : get_or drops k 0 ≡ 0 = omega arith in
      let bound : get_or (stage s.rows R drops k t) k 0 ≡ get_or R k 0 - t * get_or drops k 0 =
      stage_at s.rows R drops k t k h ∙ within_left R drops k t k (le_refl k) in
      rw (still, mul-zero) (omega (arith, held.falls k h, rw (still, mul-zero) at bound)))
      (λ (some : 1 ≤ get_or drops k 0). allowed some)
      (below_or_from (get_or drops k 0) 1)

  -- All rows in turn make a step.
  step_down : (t k : ℕ) → k ≤ s.rows → Held s ask (stage s.rows R drops 0 t)
      → ((j : ℕ) → j < s.rows → 1 ≤ get_or drops j 0
      → turn s ask j (stage s.rows R drops j t) ≤ get_or R j 0 - (t + 1) * get_or drops j 0)
      → Held s ask (stage s.rows R drops k t)
  step_down t zero h held allowed = held
  step_down t (suc k) h held allowed =
      let before = step_down t k (le_of_suc-le h) held allowed in
      row_down k t h before (allowed_anyhow k t h before (allowed k h))

  -- As many steps as every row is allowed keep what every set of bounds on the way holds.
  pub ray_held : (steps : ℕ) → Held s ask R
      → ((j : ℕ) → j < s.rows → 1 ≤ get_or drops j 0 → (t : ℕ) → t < steps
      → turn s ask j (stage s.rows R drops j t) ≤ get_or R j 0 - (t + 1) * get_or drops j 0)
      → Held s ask (along s.rows R drops steps)
  ray_held zero held allowed = rw (along-none s.rows R drops held.one_each) held
  ray_held (suc t) held allowed =
      rw (← add-one t, ← stage_last s.rows R drops t)
      (step_down t s.rows (le_refl s.rows)
      (rw (← stage_first s.rows R drops t) (ray_held t held (λ j h some u less. allowed j h some u (omega arith))))
      (λ j h some. allowed j h some t (lt-suc_self t)))

  -- The start of a ray.
  pub ray_first : (most : ℕ) → Held s ask R → OnRay s ask R drops 0 most R
  ray_first most held =
      record {
        place = sym (along-none s.rows R drops held.one_each) ∙ stage_first s.rows R drops 0;
        held = held;
        allowed = λ j none. absurd (omega arith);
      }

  module _ (k steps : ℕ) (now : List ℕ) (on : OnRay s ask R drops k steps now) (h : k < s.rows) where
    -- Row k still stands where it stood.
    pub ray_bound : get_or now k 0 ≡ get_or R k 0
    ray_bound =
        ap (λ (l : List ℕ). get_or l k 0) on.place
        ∙ stage_at s.rows R drops k 0 k h
        ∙ within_left R drops k 0 k (le_refl k)
        ∙ omega arith

    -- A row that is allowed some steps makes the first; a row allowed fewer than those before limits them all.
    pub ray_on : (reach : ℕ) → reach ≤ steps → 1 ≤ reach → Falls s ask now drops k reach
        → OnRay s ask R drops (k + 1) reach (set now k (get_or now k 0 - get_or drops k 0))
    ray_on reach fewer some falls =
        let low : get_or now k 0 - get_or drops k 0 ≡ get_or R k 0 - (0 + 1) * get_or drops k 0 = omega (arith, ray_bound, next_step 0 (get_or drops k 0)) in
        record {
          place =
              ap (λ (x : ℕ). set now k x) low
              ∙ ap (λ (l : List ℕ). set l k (get_or R k 0 - (0 + 1) * get_or drops k 0)) on.place
              ∙ stage_next s.rows R drops k 0 h
              ∙ ap (λ (j : ℕ). stage s.rows R drops j 0) (sym (add-one k));
          held =
              down s ask regular now k (get_or now k 0 - get_or drops k 0) on.held h
              (rw (along-none s.rows now drops on.held.one_each) at (first (falls 0 some))) (omega arith);
          allowed = below_more _ k (λ j earlier some t less. on.allowed j earlier some t (omega arith)) (λ some t less. its_own t less);
        }
      where
        first : turn s ask k (along s.rows now drops 0) ≤ get_or now k 0 - (0 + 1) * get_or drops k 0
            → turn s ask k (along s.rows now drops 0) ≤ get_or now k 0 - get_or drops k 0
        first allowed = omega (arith, next_step 0 (get_or drops k 0))

        its_own : (t : ℕ) → t < reach → turn s ask k (stage s.rows R drops k t) ≤ get_or R k 0 - (t + 1) * get_or drops k 0
        its_own t less =
            rw (← stage_along s.rows R drops k t, ← on.place, ← ray_bound) (falls t less)

    -- A row without a drop stays.
    pub ray_skip : get_or drops k 0 ≡ 0 → OnRay s ask R drops (k + 1) steps now
    ray_skip none =
        record {
          place =
              on.place
              ∙ sym (set-get_or (stage s.rows R drops k 0) k 0)
              ∙ ap (λ (x : ℕ). set (stage s.rows R drops k 0) k x)
              (ap (λ (l : List ℕ). get_or l k 0) (sym on.place) ∙ ray_bound ∙ unmoved)
              ∙ stage_next s.rows R drops k 0 h
              ∙ ap (λ (j : ℕ). stage s.rows R drops j 0) (sym (add-one k));
          held = on.held;
          allowed = below_more _ k on.allowed (λ some t less. absurd (moves k refl some));
        }
      where
        unmoved : get_or R k 0 ≡ get_or R k 0 - (0 + 1) * get_or drops k 0
        unmoved = omega (arith, next_step 0 (get_or drops k 0))

        moves : (j : ℕ) → j ≡ k → 1 ≤ get_or drops j 0 → ⊥
        moves j here some = let own : 1 ≤ get_or drops k 0 = rw here at some in omega arith

  -- Behind the last row the rest of the steps may be made at once.
  pub ray_ahead : (k steps : ℕ) (now : List ℕ) → k ≡ s.rows → Held s ask R → OnRay s ask R drops k steps now
      → Held s ask (along s.rows now drops (steps - 1))
  ray_ahead k zero now all held on = rw (along-none s.rows now drops on.held.one_each) on.held
  ray_ahead k (suc t) now all held on =
      let before : suc t - 1 ≡ t = omega arith in
      let place : now ≡ stage s.rows R drops s.rows 0 = on.place ∙ ap (λ (j : ℕ). stage s.rows R drops j 0) all in
      rw (before, place, stage_along s.rows R drops s.rows t, stage_last s.rows R drops t, add-one t)
      (ray_held (suc t) held (λ j h. on.allowed j (omega arith)))
