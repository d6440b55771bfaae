-- A row's sizes as facts and as the test that computes: each is the other, comparison by comparison.
use mathlib.Core.Path.{◌≡◌}
use mathlib.Core.Bool.{true, ◌&&◌}
use Prim.Native.Nat.{ℕ, ◌≤◌, ◌<◌}
use native.Mathlib.Nat.{le_trans}
use borrow.Author.Tests.{leb-true, le-leb}
use lib.Dec.{leb}
use Rattle.laws.proofs.Choice.{and_left, and_right, and_both}
use Rattle.model.specs.Sheet.{Sheet, row_allowed, row_allowed_at, rows_allowed, processors_allowed, horizon_allowed, Allowed}

-- A row's sizes, as facts.
pub record SizedRow (c d t : ℕ) : Type 0 where
  pub positive : 1 ≤ c
  pub by_deadline : c ≤ d
  pub within_period : d ≤ t
  pub small : t ≤ 1_000_000

-- A row that passes has its sizes.
pub allowed_sized : (c d t : ℕ) → row_allowed c d t ≡ true → SizedRow c d t
unfolding row_allowed
allowed_sized c d t passes =
    let from_deadline : (leb c d && (leb d t && leb t 1_000_000)) ≡ true = and_right (leb 1 c) _ passes in
    let from_period : (leb d t && leb t 1_000_000) ≡ true = and_right (leb c d) _ from_deadline in
    record {
      positive = leb-true 1 c (and_left (leb 1 c) _ passes);
      by_deadline = leb-true c d (and_left (leb c d) _ from_deadline);
      within_period = leb-true d t (and_left (leb d t) _ from_period);
      small = leb-true t 1_000_000 (and_right (leb d t) _ from_period);
    }

-- A row with its sizes passes.
pub sized_allowed : (c d t : ℕ) → SizedRow c d t → row_allowed c d t ≡ true
unfolding row_allowed
sized_allowed c d t sized =
    and_both (leb 1 c) _ (le-leb 1 c sized.positive)
    (and_both (leb c d) _ (le-leb c d sized.by_deadline)
    (and_both (leb d t) _ (le-leb d t sized.within_period) (le-leb t 1_000_000 sized.small)))

-- Each row of an allowed sheet has its sizes.
pub row_sized : (s : Sheet) → Allowed s → (k : ℕ) → k < s.rows → SizedRow (s.cost k) (s.deadline k) (s.period k)
unfolding row_allowed_at
row_sized s allowed k here = allowed_sized (s.cost k) (s.deadline k) (s.period k) (allowed.each k here)

-- A count tested to lie from 1 to a limit does, and one that does passes.
within_limit : (limit x : ℕ) → (leb 1 x && leb x limit) ≡ true → (1 ≤ x) × (x ≤ limit)
within_limit limit x passes = (leb-true 1 x (and_left (leb 1 x) _ passes), leb-true x limit (and_right (leb 1 x) _ passes))

limit_within : (limit x : ℕ) → 1 ≤ x → x ≤ limit → (leb 1 x && leb x limit) ≡ true
limit_within limit x low high = and_both (leb 1 x) _ (le-leb 1 x low) (le-leb x limit high)

-- 1 to 64 rows.
pub allowed_count : (n : ℕ) → rows_allowed n ≡ true → (1 ≤ n) × (n ≤ 64)
unfolding rows_allowed
allowed_count = within_limit 64

pub count_allowed : (n : ℕ) → 1 ≤ n → n ≤ 64 → rows_allowed n ≡ true
unfolding rows_allowed
count_allowed = limit_within 64

-- So an allowed sheet has at least one row, and at most 64.
pub some_rows : (s : Sheet) → Allowed s → 1 ≤ s.rows
some_rows s allowed = (allowed_count s.rows allowed.count).0

pub few_rows : (s : Sheet) → Allowed s → s.rows ≤ 64
few_rows s allowed = (allowed_count s.rows allowed.count).1

-- 1 to 64 processors.
pub allowed_processors : (m : ℕ) → processors_allowed m ≡ true → (1 ≤ m) × (m ≤ 64)
unfolding processors_allowed
allowed_processors = within_limit 64

pub processors_allowed_lem : (m : ℕ) → 1 ≤ m → m ≤ 64 → processors_allowed m ≡ true
unfolding processors_allowed
processors_allowed_lem = limit_within 64

-- A horizon of 1 to 16,777,216.
pub allowed_horizon : (h : ℕ) → horizon_allowed h ≡ true → (1 ≤ h) × (h ≤ 16_777_216)
unfolding horizon_allowed
allowed_horizon = within_limit 16_777_216

pub horizon_allowed_lem : (h : ℕ) → 1 ≤ h → h ≤ 16_777_216 → horizon_allowed h ≡ true
unfolding horizon_allowed
horizon_allowed_lem = limit_within 16_777_216

-- Every period of an allowed sheet is at least 1.
pub periods_positive : (s : Sheet) → Allowed s → (k : ℕ) → k < s.rows → 1 ≤ s.period k
periods_positive s allowed k here =
    let sized = row_sized s allowed k here in
    le_trans sized.positive (le_trans sized.by_deadline sized.within_period)
