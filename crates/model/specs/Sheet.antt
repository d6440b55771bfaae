-- Rows and the sizes allowed.
use Rattle.std.specs.Prelude.{◌≡◌, Bool, true, ◌&&◌, List, ℕ, ◌+◌, ◌*◌, ◌<◌, leb, length, get_or}

-- A sheet: how many rows, and the cost C, the relative deadline D and the period T at each place, in whole microseconds. Rows are
-- numbered from 0 by place, and rows with equal numbers are different rows.
pub record Sheet : Type 0 where
  pub rows : ℕ
  pub cost : ℕ → ℕ
  pub deadline : ℕ → ℕ
  pub period : ℕ → ℕ

-- The sheet that lent words say: a row is three words C, D, T, and rows follow each other.
unfoldable pub triples : ℕ → List ℕ → Sheet
triples n words =
    record {
      rows = n;
      cost = λ k. get_or words (3 * k) 0;
      deadline = λ k. get_or words (3 * k + 1) 0;
      period = λ k. get_or words (3 * k + 2) 0;
    }

-- The sheet that three lent word lists say, all costs, all deadlines and all periods: row k has word k of each, and the costs count the rows.
unfoldable pub columns : List ℕ → List ℕ → List ℕ → Sheet
columns costs deadlines periods =
    record {
      rows = length costs;
      cost = λ k. get_or costs k 0;
      deadline = λ k. get_or deadlines k 0;
      period = λ k. get_or periods k 0;
    }

-- A row's sizes: 1 ≤ C ≤ D ≤ T ≤ 1,000,000.
unfoldable pub row_allowed : ℕ → ℕ → ℕ → Bool
row_allowed c d t = leb 1 c && (leb c d && (leb d t && leb t 1_000_000))

-- The row at place k has its sizes.
unfoldable pub row_allowed_at : Sheet → ℕ → Bool
row_allowed_at s k = row_allowed (s.cost k) (s.deadline k) (s.period k)

-- 1 to 64 rows; 1 to 64 processors; a horizon of 1 to 16,777,216.
unfoldable pub rows_allowed : ℕ → Bool
rows_allowed n = leb 1 n && leb n 64

unfoldable pub processors_allowed : ℕ → Bool
processors_allowed m = leb 1 m && leb m 64

unfoldable pub horizon_allowed : ℕ → Bool
horizon_allowed h = leb 1 h && leb h 16_777_216

-- A sheet of allowed sizes.
pub record Allowed (s : Sheet) : Type 0 where
  pub count : rows_allowed s.rows ≡ true
  pub each : (k : ℕ) → k < s.rows → row_allowed_at s k ≡ true
