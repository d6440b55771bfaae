-- Why a jump along the lines skips no solution: they lie below the terms, and what they add up to is concave, so it is not below a line that it
-- is not below at both ends.
use mathlib.Core.Path.{◌≡◌}
use mathlib.Core.List.{List}
use Prim.Native.Nat.{ℕ, ◌+◌, ◌*◌, ◌-◌, ◌/◌, ◌≤◌, ◌<◌, min}
use native.Mathlib.Nat.{add-zero, div-mul-le_self, mul-add, mul_assoc}
use native.Mathlib.Omega.{arith}
use Rattle.laws.specs.Sum.{total}
use Rattle.laws.proofs.Sum.{total_mono, total-same}
use Rattle.laws.proofs.Concave.{Concave, concave_same, concave_self, concave_add, concave_times, concave_min, concave_total, total_times, above_line}
use Rattle.model.proofs.Rise.{slope_below}
use Rattle.refinement.specs.declared.other.Other.{Other}
use Rattle.refinement.specs.Inner.Kept.{row_at, term_at, line_at, KeptRows, kept_sum, Excluded}

-- No line is above the cap.
pub line-within_cap : (l : List Other) (x cap j : ℕ) → line_at l x cap j ≤ 4_294_967_296 * cap
unfolding line_at
line-within_cap l x cap j = omega arith

-- The line with a level and a slope, d later, within share and cap.
later : ℕ → ℕ → ℕ → ℕ → ℕ → ℕ
later slope time share cap d = min (slope * (time + d)) (4_294_967_296 * min share (cap + d))

later_concave : (slope time share cap : ℕ) → Concave (later slope time share cap)
unfolding later
later_concave slope time share cap =
    concave_min (λ d. slope * (time + d)) (λ d. 4_294_967_296 * min share (cap + d))
    (concave_times slope (λ d. time + d) (concave_add (λ d. time) (λ d. d) (concave_same time) concave_self))
    (concave_times 4_294_967_296 (λ d. min share (cap + d))
    (concave_min (λ d. share) (λ d. cap + d) (concave_same share) (concave_add (λ d. cap) (λ d. d) (concave_same cap) concave_self)))

module _ (l : List Other) (left : ℕ) (rows : KeptRows l left) where
  -- A line is below its term.
  line_below : (j x cap : ℕ) → j < left → line_at l x cap j ≤ 4_294_967_296 * term_at l x cap j
  unfolding line_at term_at
  line_below j x cap h =
      let o = row_at l j in
      let row = rows.each j h in
      omega (
        arith,
        slope_below o.cost o.period (x + o.ahead) (o.cost * 4_294_967_296 / o.period) 4_294_967_296 row.sizes.by_period
            (omega (arith, row.sizes.some_cost, row.sizes.by_period)) (div-mul-le_self (o.cost * 4_294_967_296) o.period),
      )

  -- Row j's line, d steps later.
  later_of : (x cap j d : ℕ) → ℕ
  later_of x cap j =
      let o = row_at l j in
      later (o.cost * 4_294_967_296 / o.period) (x + o.ahead) o.share cap

  line_later : (x cap j d : ℕ) → line_at l (x + d) (cap + d) j ≡ later_of x cap j d
  unfolding line_at later_of later
  line_later x cap j d =
      let time : x + d + (row_at l j).ahead ≡ x + (row_at l j).ahead + d = omega arith in
      rw time

  -- What the lines exclude at both ends they exclude between them.
  pub chord_passes : (settled m own x far : ℕ) → own ≤ x
      → 4_294_967_296 * (m * (x - own + 1)) ≤ 4_294_967_296 * settled + total (line_at l x (x - own + 1)) left
      → 4_294_967_296 * (m * (x - own + 1 + far)) ≤ 4_294_967_296 * settled + total (line_at l (x + far) (x - own + 1 + far)) left
      → Excluded l left settled m own x (x + far)
  unfolding later_of
  chord_passes settled m own x far from start end z low high =
      let cap = x - own + 1 in
      let d = z - x in
      let there : x + d ≡ z = omega arith in
      let so_late : cap + d ≡ z - own + 1 = omega arith in
      let moved : (e : ℕ) → total (line_at l (x + e) (cap + e)) left ≡ total (λ i. later_of x cap i e) left =
      λ e. total-same _ _ left (λ i h. line_later x cap i e) in
      let first : total (line_at l x cap) left ≡ total (λ i. later_of x cap i 0) left = rw (add-zero x, add-zero cap) at (moved 0) in
      let above = above_line (λ e. 4_294_967_296 * settled + total (λ i. later_of x cap i e) left)
      (concave_add (λ e. 4_294_967_296 * settled) (λ e. total (λ i. later_of x cap i e) left) (concave_same (4_294_967_296 * settled))
      (concave_total (λ i e. later_of x cap i e) left (λ i h. later_concave _ _ _ cap)))
      (4_294_967_296 * (m * cap)) (4_294_967_296 * m) far d (omega (arith, first)) (omega (arith, moved far, mul-add m cap far, mul_assoc 4_294_967_296 m far)) (omega arith) in
      let below = total_mono (line_at l (x + d) (cap + d)) (λ i. 4_294_967_296 * term_at l (x + d) (cap + d) i) left
      (λ i h. line_below i (x + d) (cap + d) h) in
      let all : m * (cap + d) ≤ kept_sum l left settled (x + d) (cap + d) =
      omega (arith, above, moved d, below, total_times 4_294_967_296 (term_at l (x + d) (cap + d)) left, mul-add m cap d, mul_assoc 4_294_967_296 m d) in
      rw (there, so_late) at all
