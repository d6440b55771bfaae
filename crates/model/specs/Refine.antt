-- Refining a sheet, over any one-row answer: turn, round, sweep, the two engines, marks; consistent and largest.
use Rattle.std.specs.Prelude.{◌≡◌, Bool, true, false, List, ◌↔◌, ℕ, zero, suc, ◌-◌, ◌^◌, ◌≤◌, ◌<◌, length, get_or, set}
use Rattle.std.proofs.Math.Option.{Option}
use Rattle.laws.specs.Choice.{pick, or_else, is_some, Better}
use Rattle.laws.specs.Sum.{total}
use Rattle.laws.specs.Fill.{listed, same, Below}
use Rattle.laws.specs.Bits.{bit, bits, bit_at, every}
use Rattle.model.specs.Sheet.{Sheet}

-- A one-row answer: of a row under current bounds.
abbrev pub Ask : Type 0
Ask = ℕ → List ℕ → Option ℕ

-- All bounds begin at D.
unfoldable pub deadlines : Sheet → List ℕ
deadlines s = listed s.deadline s.rows

-- A turn of row k: its new bound is the one-row answer, or D where there is none.
unfoldable pub turn : Sheet → Ask → ℕ → List ℕ → ℕ
turn s ask k R = or_else (ask k R) (s.deadline k)

-- A round works out every row from the bounds at its start.
unfoldable pub round : Sheet → Ask → List ℕ → List ℕ
round s ask R = listed (λ k. turn s ask k R) s.rows

-- A sweep over the first rows takes them from 0 upward and uses each new bound immediately.
unfoldable pub sweep : Sheet → Ask → ℕ → List ℕ → List ℕ
sweep s ask zero R = R
sweep s ask (suc k) R = set (sweep s ask k R) k (turn s ask k (sweep s ask k R))

-- Pass after pass, stopped after one that changes no bound; at most so many.
unfoldable pub until : (List ℕ → List ℕ) → ℕ → List ℕ → List ℕ
until pass zero R = R
until pass (suc most) R = let further = until pass most (pass R) in pick (same (pass R) R) R further

-- The passes that are always enough: 1 + the sum of D − C.
unfoldable pub passes : Sheet → ℕ
passes s = suc (total (λ k. s.deadline k - s.cost k) s.rows)

-- The rounds engine.
unfoldable pub rounds : Sheet → Ask → List ℕ
rounds s ask = until (round s ask) (passes s) (deadlines s)

-- The at-once engine.
unfoldable pub at_once : Sheet → Ask → List ℕ
at_once s ask = until (sweep s ask s.rows) (passes s) (deadlines s)

-- A row is marked exactly if its one-row answer under the final bounds exists.
unfoldable pub marked : Ask → List ℕ → ℕ → Bool
marked ask R k = is_some (ask k R)

-- Marks are one number: bit k is set exactly if row k is marked, and bits at and above the row count are 0.
unfoldable pub marks : Sheet → Ask → List ℕ → ℕ
marks s ask R = bits (marked ask R) s.rows

-- A sheet is accepted when every row is marked.
unfoldable pub accepted : Sheet → Ask → List ℕ → Bool
accepted s ask R = every (marked ask R) s.rows

-- A consistent set of bounds: one for each row, and each is what its turn gives.
pub record Consistent (s : Sheet) (ask : Ask) (R : List ℕ) : Type 0 where
  pub one_each : length R ≡ s.rows
  pub by_turn : (k : ℕ) → k < s.rows → get_or R k 0 ≡ turn s ask k R

-- A supported set: no bound is above what its turn gives.
abbrev pub Supported : Sheet → Ask → List ℕ → Type 0
Supported s ask Q = (k : ℕ) → k < s.rows → get_or Q k 0 ≤ turn s ask k Q

-- The largest consistent set: every consistent set lies below it in every row.
pub record Largest (s : Sheet) (ask : Ask) (R : List ℕ) : Type 0 where
  pub consistent : Consistent s ask R
  pub above : (Q : List ℕ) → Consistent s ask Q → Below s.rows Q R

-- Demand 3, of a sheet and a one-row answer: both engines end after a pass that changes nothing, at the same bounds and marks, which are
-- the largest consistent set, and the only one; a row not marked has its deadline.
pub record SameEnd (s : Sheet) (ask : Ask) : Type 0 where
  pub rounds_end : round s ask (rounds s ask) ≡ rounds s ask
  pub at_once_ends : sweep s ask s.rows (at_once s ask) ≡ at_once s ask
  pub same_bounds : rounds s ask ≡ at_once s ask
  pub same-marks : marks s ask (rounds s ask) ≡ marks s ask (at_once s ask)
  pub largest : Largest s ask (rounds s ask)
  pub only : (R : List ℕ) → Largest s ask R → R ≡ rounds s ask
  pub unmarked : (k : ℕ) → k < s.rows → marked ask (rounds s ask) k ≡ false → get_or (rounds s ask) k 0 ≡ s.deadline k

-- What marks say: bit k is set exactly if row k is marked, bits at and above the row count are 0, and all are set exactly if the sheet is
-- accepted.
pub record MarksSay (s : Sheet) (ask : Ask) (R : List ℕ) : Type 0 where
  pub within : marks s ask R < 2 ^ s.rows
  pub each : (k : ℕ) → k < s.rows → bit_at (marks s ask R) k ≡ bit (marked ask R k)
  pub past : (k : ℕ) → s.rows ≤ k → bit_at (marks s ask R) k ≡ 0
  pub full : (accepted s ask R ≡ true) ↔ (marks s ask R ≡ 2 ^ s.rows - 1)

-- One test is at least as good as another on a sheet: row by row at any bounds, in the final bounds, marks and acceptance.
pub record Dominates (s : Sheet) (better worse : Ask) : Type 0 where
  pub each_row : (k : ℕ) (R : List ℕ) → Better (better k R) (worse k R)
  pub bounds : Below s.rows (rounds s better) (rounds s worse)
  pub answers : (k : ℕ) → Better (better k (rounds s better)) (worse k (rounds s worse))
  pub keeps_marks : (k : ℕ) → marked worse (rounds s worse) k ≡ true → marked better (rounds s better) k ≡ true
  pub keeps_accepted : accepted s worse (rounds s worse) ≡ true → accepted s better (rounds s better) ≡ true
