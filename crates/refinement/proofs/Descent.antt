-- What a pass down the ray leaves: a row that reaches some steps goes down, and bounds so lowered are in range and hold what bounds on the way
-- hold.
use mathlib.Core.Path.{◌≡◌, sym, ◌∙◌, ap}
use mathlib.Core.List.{List}
use mathlib.Core.Logic.{◌⊎◌, inl, inr, ⊎_elim}
use Prim.Native.Nat.{ℕ, ◌+◌, ◌*◌, ◌-◌, ◌≤◌, ◌<◌, zero-le}
use native.Mathlib.Nat.{le_trans, le_refl, mul-le-mul, zero-mul, add-le-add}
use native.Mathlib.Omega.{arith}
use lib.ListN.{length, get_or, set, length-set}
use Rattle.laws.specs.Fill.{Below}
use Rattle.laws.proofs.Order.{below_or_from}
use Rattle.model.specs.Sheet.{Sheet}
use Rattle.model.specs.Refine.{Ask}
use Rattle.model.specs.Inner.{along, Held}
use Rattle.model.proofs.Refine.{Regular}
use Rattle.model.proofs.Ray.{next_step, within, within_gone, within_left, stage_at, along-none, along_lower, OnRay, ray_bound, ray_on, ray_skip, ray_ahead}
use Rattle.model.proofs.Sheet.{row_sized}
use Rattle.refinement.specs.Inner.Ray.{OnWay, Reaches, Roomy, Lowered, Descended}
use Rattle.refinement.specs.Inner.{Running}
use Rattle.refinement.specs.Refinement.{ask_of}
use Rattle.refinement.specs.Question.{Ready}
use Rattle.refinement.proofs.Steps.{ready_lower, running_lower}

module _ (s : Sheet) (ask : Ask) (regular : Regular s ask) (R drops : List ℕ) (most : ℕ) (ready : Ready s R)
    (roomy : Roomy s R drops most) where
  -- Where a row stands before its first step or behind it.
  row_now : (k i : ℕ) (now : List ℕ) (steps : ℕ) → OnRay s ask R drops k steps now → i < s.rows
      → (get_or now i 0 ≡ get_or R i 0 - get_or drops i 0) ⊎ (get_or now i 0 ≡ get_or R i 0)
  row_now k i now steps on inside =
      let at : get_or now i 0 ≡ within R drops k 0 i =
      ap (λ (l : List ℕ). get_or l i 0) on.place ∙ stage_at s.rows R drops k 0 i inside in
      ⊎_elim (λ (gone : i < k). inl (at ∙ within_gone R drops k 0 i gone ∙ omega (arith, next_step 0 (get_or drops i 0))))
      (λ (left : k ≤ i). inr (at ∙ within_left R drops k 0 i left ∙ omega arith))
      (below_or_from i k)

  -- No row stands above where the ray began.
  ray_below : (k steps : ℕ) (now : List ℕ) → OnRay s ask R drops k steps now → Below s.rows now R
  ray_below k steps now on i inside =
      ⊎_elim (λ (gone : get_or now i 0 ≡ get_or R i 0 - get_or drops i 0). omega arith) (λ (left : get_or now i 0 ≡ get_or R i 0). omega arith)
      (row_now k i now steps on inside)

  -- The bounds on the ray are in range.
  ray_ready : (k steps : ℕ) (now : List ℕ) → OnRay s ask R drops k steps now → Ready s now
  ray_ready k steps now on =
      ready_lower s ask regular R now ready on.held (λ i h. ray_below k steps now on i h)

  -- The next row's way down.
  pub on_way : (k steps : ℕ) (now : List ℕ) → OnRay s ask R drops k steps now → steps ≤ most → k < s.rows
      → OnWay s now drops k steps
  on_way k steps now on fewer inside =
      record {
        ready = ray_ready k steps now on;
        inside = inside;
        room = λ t h i here. has_room t i here h;
        own = rw (ray_bound s ask regular R drops k steps now on inside)
            (le_trans (add-le-add (mul-le-mul fewer (le_refl (get_or drops k 0))) (le_refl _)) (roomy k inside));
      }
    where
      has_room : (t i : ℕ) → i < s.rows → t < steps → t * get_or drops i 0 + s.cost i ≤ get_or now i 0
      has_room t i here h =
          let more : (t + 1) * get_or drops i 0 ≤ most * get_or drops i 0 = mul-le-mul {n₂ = most} (omega arith) (le_refl (get_or drops i 0)) in
          ⊎_elim (λ (gone : get_or now i 0 ≡ get_or R i 0 - get_or drops i 0). omega (arith, roomy i here, next_step t (get_or drops i 0)))
          (λ (left : get_or now i 0 ≡ get_or R i 0). omega (arith, roomy i here, next_step t (get_or drops i 0)))
          (row_now k i now steps on here)

  -- A row that is not allowed its drop ends the pass where it stands, whatever drops are left.
  pub ray_lost : (k steps : ℕ) (now left : List ℕ) → OnRay s ask R drops k steps now → Lowered s ask R now left 0
  ray_lost k steps now left on =
      record {
        below = ray_below k steps now on;
        room = λ i h. omega (arith, zero-mul (get_or left i 0));
        one_each = on.held.one_each;
        ahead = rw (along-none s.rows now left on.held.one_each) on.held;
      }

  -- Behind the last row the other steps may be made at once.
  pub ray_done : (k steps : ℕ) (now : List ℕ) → Held s ask R → OnRay s ask R drops k steps now → steps ≤ most
      → k ≡ s.rows → (further : ℕ) → further ≡ steps - 1 → Lowered s ask R now drops further
  ray_done k steps now held on fewer all further is_rest =
      record {
        below = ray_below k steps now on;
        room = has_room;
        one_each = on.held.one_each;
        ahead = rw is_rest
            (ray_ahead s ask regular R drops k steps now (all) held on);
      }
    where
      has_room : (i : ℕ) → i < s.rows → further * get_or drops i 0 ≤ get_or now i 0
      has_room i here =
          ⊎_elim (λ (none : steps < 1). let nothing : further ≡ 0 = omega arith in rw (nothing, zero-mul) zero-le)
          (λ (some_steps : 1 ≤ steps).
          let more : (further + 1) * get_or drops i 0 ≤ most * get_or drops i 0 = mul-le-mul {n₂ = most} (omega arith) (le_refl (get_or drops i 0)) in
          ⊎_elim (λ (gone : get_or now i 0 ≡ get_or R i 0 - get_or drops i 0). omega (arith, roomy i here, next_step further (get_or drops i 0)))
          (λ (left : get_or now i 0 ≡ get_or R i 0). omega (arith, roomy i here, next_step further (get_or drops i 0)))
          (row_now k i now steps on here))
          (below_or_from steps 1)

-- A row that reaches some steps goes down by its drop, and the ray goes on with no more than those.
pub ray_lowered : (s : Sheet) (ask : Ask) → Regular s ask → (R drops same : List ℕ) (k steps : ℕ) (now : List ℕ)
    → OnRay s ask R drops k steps now → k < s.rows → same ≡ drops → (reach : ℕ) → Reaches s ask now same k steps reach → (reach ≡ 0 → ⊥)
    → (lower : List ℕ) (left : ℕ) → lower ≡ set now k (get_or now k 0 - get_or same k 0) → left ≡ reach
    → OnRay s ask R drops (k + 1) left lower × (left ≤ steps) × (length lower ≡ length now)
ray_lowered s ask regular R drops same k steps now on inside unchanged reach reaches some_steps lower left is_lower is_left =
    let reached = rw unchanged at reaches in (
      rw (is_left, is_lower, unchanged)
          (ray_on s ask regular R drops k steps now on inside reach reached.fewer (omega arith) reached.falls),
      omega (arith, reaches.fewer),
      ap length is_lower ∙ length-set now k _,
    )

-- A row without a drop stays, and so do the steps.
pub ray_stayed : (s : Sheet) (ask : Ask) → Regular s ask → (R drops same : List ℕ) (k steps : ℕ) (now : List ℕ)
    → OnRay s ask R drops k steps now → k < s.rows → same ≡ drops → get_or same k 0 ≡ 0
    → (lower : List ℕ) (left : ℕ) → lower ≡ now → left ≡ steps
    → OnRay s ask R drops (k + 1) left lower × (left ≤ steps) × (length lower ≡ length now)
ray_stayed s ask regular R drops same k steps now on inside unchanged none lower left is_lower is_left =
    (rw (is_left, is_lower) (ray_skip s ask regular R drops k steps now on inside (rw unchanged at none)), omega arith, ap length is_lower)

-- Bounds below bounds in range are at most a million.
pub lowered_small : (s : Sheet) (R : List ℕ) → Ready s R → (after : List ℕ) → Below s.rows after R → (i : ℕ) → i < s.rows
    → get_or after i 0 ≤ 1_000_000
lowered_small s R ready after below i inside =
    let sized = row_sized s ready.rows i inside in
    omega (arith, below i inside, (ready.in_range i inside).1)

-- The further steps of a pass, made.
pub lowered_down : (s : Sheet) (ask : Ask) (R after drops : List ℕ) (further : ℕ) → Lowered s ask R after drops further
    → (count : ℕ) → count ≡ s.rows → (final : List ℕ) → final ≡ along count after drops further → Descended s ask R final
lowered_down s ask R after drops further lowered count counted final made =
    let last : final ≡ along s.rows after drops further = made ∙ ap (λ (n : ℕ). along n after drops further) counted in
    record {
      held = rw last lowered.ahead;
      below = λ i h. rw last (le_trans (along_lower s.rows after drops further i h) (lowered.below i h));
    }

-- Going down not at all, and going down further.
pub descended_none : (s : Sheet) (ask : Ask) (R : List ℕ) → Held s ask R → Descended s ask R R
descended_none s ask R held = record { held = held; below = λ i h. le_refl (get_or R i 0) }

pub descended_more : (s : Sheet) (ask : Ask) (R now lower : List ℕ) → Descended s ask R now → Descended s ask now lower → Descended s ask R lower
descended_more s ask R now lower before after =
    record { held = after.held; below = λ i h. le_trans (after.below i h) (before.below i h) }

-- One bound a row, before and after.
pub descended_length : (s : Sheet) (ask : Ask) (R now : List ℕ) → Ready s R → Descended s ask R now → length now ≡ length R
descended_length s ask R now ready descended = descended.held.one_each ∙ sym ready.one_each

-- What going down leaves is on the way.
pub descended_running : (s : Sheet) (R now : List ℕ) (count m method : ℕ) → Running s R count m method
    → Descended s (ask_of s m method) R now → Running s now count m method
descended_running s R now count m method running descended =
    running_lower s R now count m method running descended.held descended.below
