-- A row's way down in plain numbers: caps and terms along the ray are those of shares, work and steps that fall by equal amounts.
use mathlib.Core.Path.{◌≡◌, refl, sym, ◌∙◌, ap}
use mathlib.Core.List.{List}
use mathlib.Core.Option.{some}
use Prim.Native.Nat.{ℕ, ◌+◌, ◌*◌, ◌-◌, ◌/◌, ◌≤◌, ◌<◌, min}
use native.Mathlib.Nat.{le_trans, le_refl, le_of_eq, mul-le-mul, mul-add, mul_left_comm}
use native.Mathlib.Omega.{arith}
use lib.ListN.{get_or}
use Rattle.laws.proofs.Fill.{listed_at}
use Rattle.laws.proofs.Choice.{better_or_else}
use Rattle.laws.proofs.Line.{under_smaller, stays_below}
use Rattle.laws.proofs.Sum.{unless_here, unless_other}
use Rattle.laws.specs.Choice.{Better}
use Rattle.laws.specs.Sum.{total}
use Rattle.model.specs.Sheet.{Sheet}
use Rattle.model.specs.Interference.{share, carried, work, share_of, work_of, others, bcl_term, bcl_value, rta_term, rta_right}
use Rattle.model.specs.Answer.{Method, BCL, RTA, method_of, answer}
use Rattle.model.specs.Refine.{turn}
use Rattle.model.specs.Inner.{along, Falls}
use Rattle.model.proofs.Answer.{method_zero, method_other, answer-fixed, answer-within, rta_below}
use Rattle.model.proofs.Ray.{next_step, within}
use Rattle.refinement.specs.Inner.Ray.{term_by, cap_by, step_to, term_along, cap_along, added_along, sum_along, Lies, OnWay, Aimed, SmallLine, SumLine, StaysBelow, Reaches}
use Rattle.refinement.specs.Refinement.{ask_of}
use Rattle.refinement.proofs.Limits.{not_passed}
use Rattle.refinement.proofs.Lines.{lies_smaller, Summed}

-- Row i along the ray.
pub along_at : (n : ℕ) (R drops : List ℕ) (t i : ℕ) → i < n → get_or (along n R drops t) i 0 ≡ get_or R i 0 - t * get_or drops i 0
unfolding along
along_at n R drops t i h = listed_at (λ i. get_or R i 0 - t * get_or drops i 0) n i h

module _ (s : Sheet) (R drops : List ℕ) (k method : ℕ) where
  -- BCL's cap stays; RTA's is where the step leads, less the cost, and 1.
  pub cap_stays : method ≡ 0 → (t : ℕ) → cap_along (method_of method) s R drops k t ≡ s.deadline k - s.cost k + 1
  unfolding cap_along cap_by
  cap_stays zero t = rw (method_zero method zero)

  pub cap_falls : (method ≡ 0 → ⊥) → (t : ℕ) → cap_along (method_of method) s R drops k t ≡ step_to R drops k t - s.cost k + 1
  unfolding cap_along cap_by
  cap_falls other t = rw (method_other method other)

  module _ (i t : ℕ) (inside : i < s.rows) where
    -- The share of row i along the ray.
    share-along : share_of s k (along s.rows R drops t) i
        ≡ share (s.cost i) (s.deadline i) (s.period i) (get_or R i 0 - t * get_or drops i 0) (s.deadline k)
    unfolding share_of
    share-along = rw (along_at s.rows R drops t i inside)

    -- BCL's term.
    pub bcl_along : method ≡ 0 → term_along (method_of method) s R drops k i t
        ≡ min (share (s.cost i) (s.deadline i) (s.period i) (get_or R i 0 - t * get_or drops i 0) (s.deadline k))
        (cap_along (method_of method) s R drops k t)
    unfolding term_along cap_along term_by cap_by bcl_term
    bcl_along zero = rw (method_zero method zero, share-along)

    -- RTA's term.
    pub rta_along : (method ≡ 0 → ⊥) → term_along (method_of method) s R drops k i t
        ≡ min (carried (s.cost i) (s.period i) (step_to R drops k t + (get_or R i 0 - t * get_or drops i 0) - s.cost i))
        (min (share (s.cost i) (s.deadline i) (s.period i) (get_or R i 0 - t * get_or drops i 0) (s.deadline k))
        (cap_along (method_of method) s R drops k t))
    unfolding term_along cap_along term_by cap_by rta_term work_of work
    rta_along other = rw (method_other method other, share-along, along_at s.rows R drops t i inside)

-- The row itself adds nothing, every other row its term.
pub own_adds : (method : Method) (s : Sheet) (R drops : List ℕ) (k i most : ℕ) → i ≡ k
    → SmallLine (added_along method s R drops k i) most 0 0 most
unfolding added_along
own_adds method s R drops k i most here =
    record {
      small = omega arith;
      lies = record {
        under = λ t h. rw (here, unless_here) (omega arith);
        fewer = le_refl most;
        gentle = omega arith;
      };
    }

pub other_adds : (method : Method) (s : Sheet) (R drops : List ℕ) (k i most value slope limit : ℕ) → (i ≡ k → ⊥)
    → SmallLine (term_along method s R drops k i) most value slope limit → SmallLine (added_along method s R drops k i) most value slope limit
unfolding added_along
other_adds method s R drops k i most value slope limit elsewhere line =
    record {
      small = line.small;
      lies = lies_smaller _ _ most value slope limit
          (λ t h. le_of_eq (unless_other k (λ i. term_along method s R drops k i t) i elsewhere)) line.lies;
    }

-- An X from cost to deadline that its own sum does not pass is not passed by the answer, by either method.
answer_below : (method : Method) (s : Sheet) (m k : ℕ) (R : List ℕ) (x : ℕ) → s.cost k ≤ x → x ≤ s.deadline k
    → s.cost k + others s k (λ i. term_by method s k R x i) / m ≤ x → Better (answer method s m k R) (some x)
unfolding answer term_by bcl_value rta_right
answer_below BCL s m k R x from within stays =
    let found = answer-fixed s m k R BCL (some (bcl_value s m k R)) (record { value = refl; by_deadline = le_trans stays within }) in
    rw found stays
answer_below RTA s m k R x from within stays = rta_below s m k R x from within stays

-- Nor by the turn.
turn_below : (method : Method) (s : Sheet) (m k : ℕ) (R : List ℕ) (x : ℕ) → s.cost k ≤ x → x ≤ s.deadline k
    → s.cost k + others s k (λ i. term_by method s k R x i) / m ≤ x → turn s (answer method s m) k R ≤ x
unfolding turn
turn_below method s m k R x from within stays =
    better_or_else (answer method s m k R) (some x) (s.deadline k) (answer_below method s m k R x from within stays)
    (λ y found. (answer-within s m k R method y found).1)

-- What stays below the room at the start, less what the room has fallen, stays below the room left.
room_left : (m left t fall sum room : ℕ) → left + t * fall ≡ room → sum + t * (m * fall) < m * room → sum < m * left
room_left m left t fall sum room start below =
    let whole : m * room ≡ m * left + m * (t * fall) = ap (λ (x : ℕ). m * x) (sym start) ∙ mul-add m left (t * fall) in
    omega (arith, mul_left_comm t m fall)

-- What all rows add is the sum over every other place.
pub summed_all : (method : Method) (s : Sheet) (R drops : List ℕ) (k most n value slope limit : ℕ) → n ≡ s.rows → n ≤ 64
    → Summed (added_along method s R drops k) most n value slope limit → SumLine (sum_along method s R drops k) most value slope limit
unfolding sum_along added_along others
summed_all method s R drops k most n value slope limit counted few summed =
    record {
      under = under_smaller (λ t. total (λ i. added_along method s R drops k i t) n) _ _ _ _ (λ t h. rw counted (le_refl _)) summed.under;
      fewer = summed.fewer;
      small = omega (arith, summed.small);
    }

module _ (s : Sheet) (R drops : List ℕ) (row most : ℕ) (way : OnWay s R drops row most) where
  -- Every step asked for leads no lower than the cost.
  pub own_step : (t : ℕ) → t < most → (t + 1) * get_or drops row 0 + s.cost row ≤ get_or R row 0
  own_step t h =
      let fewer : (t + 1) * get_or drops row 0 ≤ most * get_or drops row 0 = mul-le-mul {n₂ = most} (omega arith) (le_refl (get_or drops row 0)) in
      omega (arith, way.own)

  -- Step t leads t drops below the first.
  pub step_at : (window first fall : ℕ) → Aimed s R drops row window first fall → (t : ℕ) → t < most
      → step_to R drops row t + t * fall ≡ first
  unfolding step_to
  step_at window first fall aim t h =
      let drop : t * fall ≡ t * get_or drops row 0 = ap (λ (x : ℕ). t * x) aim.by_drop in
      omega (arith, own_step t h, aim.by_bound, aim.by_drop, next_step t (get_or drops row 0))

  -- A row's time along the ray shrinks by both drops.
  pub time_at : (window first fall : ℕ) → Aimed s R drops row window first fall → (t i : ℕ) → t < most → i < s.rows
      → step_to R drops row t + (get_or R i 0 - t * get_or drops i 0) - s.cost i
      ≡ first + get_or R i 0 - s.cost i - t * (fall + get_or drops i 0)
  time_at window first fall aim t i h inside =
      omega (arith, step_at window first fall aim t h, way.room t h i inside, mul-add t fall (get_or drops i 0))

  -- And it has room for every step asked for.
  pub time_room : (window first fall : ℕ) → Aimed s R drops row window first fall → (i : ℕ) → i < s.rows → (t : ℕ) → t < most
      → t * (fall + get_or drops i 0) ≤ first + get_or R i 0 - s.cost i
  time_room window first fall aim i inside t h =
      omega (arith, step_at window first fall aim t h, way.room t h i inside, mul-add t fall (get_or drops i 0))

  -- The cap lies under a line: a level one for BCL, one that falls with the row for RTA.
  pub cap_level : (method window first fall cost : ℕ) → Aimed s R drops row window first fall → s.cost row ≡ cost
      → method ≡ 0 → Lies (cap_along (method_of method) s R drops row) most (window - cost + 1) 0 most
  cap_level method window first fall cost aim own zero =
      record {
        under = λ t h. omega (arith, cap_stays s R drops row method zero t, aim.by_deadline);
        fewer = le_refl most;
        gentle = omega arith;
      }

  pub cap_with_row : (method window first fall cost : ℕ) → Aimed s R drops row window first fall → s.cost row ≡ cost
      → get_or drops row 0 ≤ 1_000_000 → (method ≡ 0 → ⊥) → Lies (cap_along (method_of method) s R drops row) most (first - cost + 1) fall most
  unfolding step_to
  cap_with_row method window first fall cost aim own small other =
      record {
        under = λ t h.
            omega (
              arith,
              cap_falls s R drops row method other t,
              step_at window first fall aim t h,
              own_step t h,
              next_step t (get_or drops row 0),
            );
        fewer = le_refl most;
        gentle = omega (arith, small, aim.by_drop);
      }

  -- What lies over the share and the cap lies over BCL's term; with the work, over RTA's.
  pub bcl_lies : (method window first fall i value slope limit : ℕ) → Aimed s R drops row window first fall → i < s.rows
      → method ≡ 0
      → Lies (λ t. min (share (s.cost i) (s.deadline i) (s.period i) (get_or R i 0 - t * get_or drops i 0) window)
      (cap_along (method_of method) s R drops row t)) most value slope limit
      → Lies (term_along (method_of method) s R drops row i) most value slope limit
  bcl_lies method window first fall i value slope limit aim inside zero lies =
      lies_smaller _ _ most value slope limit
      (λ t h. rw (bcl_along s R drops row method i t inside zero, ← aim.by_deadline) (le_refl _)) lies

  pub rta_lies : (method window first fall i value slope limit : ℕ) → Aimed s R drops row window first fall → i < s.rows
      → (method ≡ 0 → ⊥)
      → Lies (λ t. min (carried (s.cost i) (s.period i)
      (first + get_or R i 0 - s.cost i - t * (fall + get_or drops i 0)))
      (min (share (s.cost i) (s.deadline i) (s.period i) (get_or R i 0 - t * get_or drops i 0) window)
      (cap_along (method_of method) s R drops row t))) most value slope limit
      → Lies (term_along (method_of method) s R drops row i) most value slope limit
  rta_lies method window first fall i value slope limit aim inside other lies =
      lies_smaller _ _ most value slope limit
      (λ t h.
      rw (
        rta_along s R drops row method i t inside other,
        ← aim.by_deadline,
        time_at window first fall aim t i h inside,
      )
      (le_refl _))
      lies

  -- While the line stays below what the row has left, the row's turn allows the steps.
  pub reaches : (m method window first fall cost value slope limit steps : ℕ) → 1 ≤ m → Aimed s R drops row window first fall
      → s.cost row ≡ cost
      → SumLine (sum_along (method_of method) s R drops row) most value slope limit
      → StaysBelow value slope limit (m * fall) (m * (first - cost + 1)) steps
      → Reaches s (ask_of s m method) R drops row most steps
  unfolding ask_of sum_along term_along step_to
  reaches m method window first fall cost value slope limit steps positive aim own line below =
      record { fewer = le_trans below.fewer line.fewer; falls = falls }
    where
      falls : Falls s (ask_of s m method) R drops row steps
      falls t h =
          let early : t < limit = le_trans h below.fewer in
          let soon : t < most = le_trans early line.fewer in
          let step = step_at window first fall aim t soon in
          let low = own_step t soon in
          let from : s.cost row ≤ step_to R drops row t = omega arith in
          let range = way.ready.in_range row way.inside in
          let left : step_to R drops row t - s.cost row + 1 + t * fall ≡ first - cost + 1 = omega arith in
          let kept = stays_below (sum_along (method_of method) s R drops row) value slope limit (m * fall) (m * (first - cost + 1)) line.under
          (below.begins (omega arith)) t early (below.lasts t h) in
          turn_below (method_of method) s m row (along s.rows R drops t) (step_to R drops row t) from (omega (arith, range.1))
          (not_passed m (s.cost row) (step_to R drops row t) _ positive from (room_left m _ t fall _ _ left kept))
