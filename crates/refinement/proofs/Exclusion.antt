-- Why a jump skips no solution: each term rises one a step to its room, so the sum is not below a concave function of the steps.
use mathlib.Core.Path.{◌≡◌, ap}
use mathlib.Core.List.{List}
use mathlib.Core.Logic.{⊎_elim}
use Prim.Native.Nat.{ℕ, ◌+◌, ◌*◌, ◌-◌, ◌/◌, ◌≤◌, ◌<◌, min}
use native.Mathlib.Nat.{le_trans, le-min, le_refl, le-div_iff_mul-le, mul_comm, eq-or-lt_of_le}
use native.Mathlib.Decide.{ℕ_discrete}
use native.Mathlib.Omega.{arith}
use borrow.Author.Tests.{eq-eqb, ne_eqb}
use lib.ListN.{length, get_or}
use Rattle.laws.specs.Fill.{listed}
use Rattle.laws.proofs.Choice.{pick_yes, pick_no}
use Rattle.laws.proofs.Sum.{total_mono, total-same}
use Rattle.laws.proofs.Fill.{listed-length, listed_at}
use Rattle.laws.proofs.Concave.{none_skipped}
use Rattle.laws.proofs.Climb.{Climbed, climbed_stretch}
use Rattle.model.specs.Sheet.{Sheet}
use Rattle.model.specs.Interference.{carried, rta_right}
use Rattle.model.proofs.Interference.{rta_right_rises}
use Rattle.model.proofs.Rise.{carried-within, carried_rises, carried_full}
use Rattle.refinement.specs.Inner.{reach, Rooms, Jumped}
use Rattle.refinement.proofs.Limits.{not_passed}
use Rattle.refinement.specs.declared.other.Other.{Other}
use Rattle.refinement.specs.Inner.Kept.{row_at, term_from, top_from, term_at, top_at, room_at, KeptRows, kept_sum, Met, Excluded}

-- What holds in both cases holds of what a term comes to for certain.
pub by_period : (P : ℕ → Type 0) (c t whole share : ℕ) → (c ≡ t → P share) → P (min (whole + c) share) → P (reach c t whole share)
unfolding reach
by_period P c t whole share full other = decided (ℕ_discrete c t)
  where
    decided : Dec (c ≡ t) → P (reach c t whole share)
    decided (yes same) = rw (pick_yes _ share _ (eq-eqb c t same)) (full same)
    decided (no differ) = rw (pick_no _ share _ (ne_eqb c t differ)) other

-- It is within the share, and not below what is done.
pub reach-within : (c t whole share : ℕ) → reach c t whole share ≤ share
reach-within c t whole share = by_period (λ top. top ≤ share) c t whole share (λ same. omega arith) (omega arith)

pub reach_above : (c t y share a : ℕ) → a ≤ carried c t y → a ≤ share → a ≤ reach c t (y / t * c) share
reach_above c t y share a done shared =
    by_period (λ top. a ≤ top) c t (y / t * c) share (λ same. shared) (omega (arith, carried-within c t y))

-- Work rises one a step to it.
reach_certain : (c t y share d : ℕ) → 1 ≤ t → min (carried c t y + d) (reach c t (y / t * c) share) ≤ carried c t (y + d)
reach_certain c t y share d some_period =
    by_period (λ top. min (carried c t y + d) top ≤ carried c t (y + d)) c t (y / t * c) share
    (λ same. rw (same, carried_full t y some_period, carried_full t (y + d) some_period) (omega arith))
    (le_trans (omega arith) (carried_rises c t y d))

-- A term within work, share and cap rises with all three.
term_up : (a top work later share cap d : ℕ) → a ≤ work → a ≤ cap → a ≤ top → top ≤ share → min (work + d) top ≤ later
    → a + min d (top - a) ≤ min later (min share (cap + d))
term_up a top work later share cap d by_work by_cap by_top shared certain =
    le-min (le_trans (omega arith) certain) (le-min (omega arith) (omega arith))

-- One row's term, its room and its later term.
pub one_rises : (o : Other) (x cap d : ℕ) → 1 ≤ o.period → term_from o x cap + min d (top_from o x - term_from o x cap) ≤ term_from o (x + d) (cap + d)
one_rises o x cap d some_period =
    let y = x + o.ahead in
    let whole = y / o.period * o.cost in
    let later : x + d + o.ahead ≡ y + d = omega arith in
    rw later
    (term_up (term_from o x cap) (reach o.cost o.period whole o.share) (carried o.cost o.period y) (carried o.cost o.period (y + d)) o.share cap d
    (omega arith) (omega arith) (reach_above o.cost o.period y o.share _ (omega arith) (omega arith)) (reach-within o.cost o.period whole o.share)
    (reach_certain o.cost o.period y o.share d some_period))

module _ (l : List Other) (left : ℕ) (rows : KeptRows l left) where
  -- The same of a row of the list.
  term_rises : (j x cap d : ℕ) → j < left → term_at l x cap j + min d (room_at l x cap j) ≤ term_at l (x + d) (cap + d) j
  unfolding term_at room_at top_at
  term_rises j x cap d h =
      let row = rows.each j h in
      one_rises (row_at l j) x cap d (omega (arith, row.sizes.some_cost, row.sizes.by_period))

  -- A term is within what it comes to, which is within the share.
  pub term_within : (j x cap : ℕ) → j < left → term_at l x cap j ≤ top_at l x j
  unfolding term_at top_at
  term_within j x cap h =
      let o = row_at l j in
      reach_above o.cost o.period (x + o.ahead) o.share _ (omega arith) (omega arith)

  pub top_small : (j x : ℕ) → j < left → top_at l x j ≤ 1_000_000
  unfolding top_at
  top_small j x h =
      let o = row_at l j in
      omega (arith, (rows.each j h).small_share, reach-within o.cost o.period ((x + o.ahead) / o.period * o.cost) o.share)

  room_small : (j x cap : ℕ) → j < left → room_at l x cap j ≤ 1_000_000
  unfolding room_at
  room_small j x cap h = omega (arith, top_small j x h)

  -- The rooms that were filled in are rooms.
  pub rooms_filled : (room : List ℕ) (x cap : ℕ) → room ≡ listed (room_at l x cap) left → Rooms room
  rooms_filled room x cap filled =
      let size : length room ≡ left = rw filled (listed-length (room_at l x cap) left) in
      record {
        few = omega (arith, rows.few);
        small = λ j h. let there : j < left = omega arith in rw (filled, listed_at (room_at l x cap) left j there) (room_small j x cap there);
      }

  -- A jump over the rooms passes no solution.
  pub jump_passes : (room : List ℕ) (settled m own x gain most far : ℕ) → own ≤ x
      → room ≡ listed (room_at l x (x - own + 1)) left
      → m * (x - own + 1) ≤ kept_sum l left settled x (x - own + 1)
      → gain ≡ kept_sum l left settled x (x - own + 1) - m * (x - own + 1)
      → Jumped room gain m most far → Excluded l left settled m own x (x + far + 1)
  jump_passes room settled m own x gain most far from filled full is_gain jumped z low high =
      let cap = x - own + 1 in
      let d = z - x in
      let there : x + d ≡ z = omega arith in
      let later : cap + d ≡ z - own + 1 = omega arith in
      let terms = term_at l x cap in
      let rooms = room_at l x cap in
      let size : length room ≡ left = rw filled (listed-length rooms left) in
      let at : (i : ℕ) → i < left → min far (get_or room i 0) ≡ min far (rooms i) =
      λ i h. ap (min far) (rw filled (listed_at rooms left i h)) in
      let same = total-same (λ i. min far (get_or room i 0)) (λ i. min far (rooms i)) left at in
      let rises = total_mono (λ i. terms i + min d (rooms i)) (term_at l (x + d) (cap + d)) left (λ i h. term_rises i x cap d h) in
      let fills = none_skipped m cap far settled left terms rooms full (omega (arith, rw size at jumped.gains, same, is_gain)) d (omega arith) in
      let all : m * (cap + d) ≤ kept_sum l left settled (x + d) (cap + d) = omega (arith, rises, fills) in
      rw (there, later) at all

-- What the rows kept add, and the right side of the equation.
module _ (s : Sheet) (R : List ℕ) (l : List Other) (row left settled x m : ℕ) (met : Met s R l row left settled x) (some_processor : 1 ≤ m) where
  right_from : (z : ℕ) → x ≤ z → rta_right s m row R z ≡ s.cost row + kept_sum l left settled z (z - s.cost row + 1) / m
  unfolding rta_right
  right_from z from = rw (met.same z from)

  -- X stands where they do not fill m times the cap.
  pub right_stands : (own : ℕ) → own ≡ s.cost row → own ≤ x → kept_sum l left settled x (x - own + 1) < m * (x - own + 1) → rta_right s m row R x ≤ x
  right_stands own is_cost from short = rw (right_from x (le_refl x)) (not_passed m (s.cost row) x _ some_processor (omega arith) (rw is_cost at short))

  -- What is passed is below its value.
  right_above : (next : ℕ) → s.cost row ≤ x → Excluded l left settled m (s.cost row) x next → (z : ℕ) → x ≤ z → z < next → z < rta_right s m row R z
  right_above next from passed z low high =
      let cap = z - s.cost row + 1 in
      let quotient : cap ≤ kept_sum l left settled z cap / m = (le-div_iff_mul-le some_processor).1 (rw (mul_comm cap m) (passed z low high)) in
      omega (arith, right_from z low)

  -- So a climb goes on over what is passed.
  pub climb_on : (own next : ℕ) → own ≡ s.cost row → own ≤ x → x ≤ next → Excluded l left settled m own x next
      → Climbed (rta_right s m row R) (s.cost row) x → Climbed (rta_right s m row R) (s.cost row) next
  climb_on own next is_cost from further passed climbed =
      ⊎_elim (λ (same : x ≡ next). rw (← same) climbed)
      (λ (more : x < next).
      climbed_stretch _ (rta_right_rises _ _ _ _) _ _ _ climbed more (right_above next (omega arith) (rw is_cost at passed)))
      (eq-or-lt_of_le further)
