-- Sheets compared row by row: one that lies in another, and two that say the same.
use Rattle.std.specs.Prelude.{◌≡◌, true, List, ℕ, ◌<◌}
use Rattle.laws.specs.Choice.{Better}
use Rattle.laws.specs.Along.{Injects, UnderAlong}
use Rattle.model.specs.Sheet.{Sheet}
use Rattle.model.specs.Answer.{Method, answer}
use Rattle.model.specs.Refine.{Ask, rounds, at_once, marked, marks, accepted}

-- One sheet lies in another: its row k is the other's row e k, and no two of its rows are one row there.
pub record LiesIn (s t : Sheet) (e : ℕ → ℕ) : Type 0 where
  pub places : Injects e s.rows t.rows
  pub cost : (k : ℕ) → k < s.rows → s.cost k ≡ t.cost (e k)
  pub deadline : (k : ℕ) → k < s.rows → s.deadline k ≡ t.deadline (e k)
  pub period : (k : ℕ) → k < s.rows → s.period k ≡ t.period (e k)

-- Each row of a sheet has it easier, under the bounds Q, than the row where it lies has under R: no larger bound, a better answer, and no
-- mark and no acceptance is lost.
pub record Eased (s t : Sheet) (e : ℕ → ℕ) (ask ask' : Ask) (Q R : List ℕ) : Type 0 where
  pub bounds : UnderAlong e s.rows Q R
  pub answers : (k : ℕ) → k < s.rows → Better (ask k Q) (ask' (e k) R)
  pub keeps_marks : (k : ℕ) → k < s.rows → marked ask' R (e k) ≡ true → marked ask Q k ≡ true
  pub keeps_accepted : accepted t ask' R ≡ true → accepted s ask Q ≡ true

-- Two sheets are alike: as many rows, and at each place below that count the same three numbers.
pub record Alike (s t : Sheet) : Type 0 where
  pub rows : s.rows ≡ t.rows
  pub cost : (k : ℕ) → k < s.rows → s.cost k ≡ t.cost k
  pub deadline : (k : ℕ) → k < s.rows → s.deadline k ≡ t.deadline k
  pub period : (k : ℕ) → k < s.rows → s.period k ≡ t.period k

-- On two sheets a method gives the same, with m processors: each row's answer under any bounds, the bounds where either engine ends, and
-- under any bounds the marks and whether the sheet is accepted.
pub record SameResults (method : Method) (m : ℕ) (s t : Sheet) : Type 0 where
  pub answers : (k : ℕ) → k < s.rows → (R : List ℕ) → answer method s m k R ≡ answer method t m k R
  pub by_rounds : rounds s (answer method s m) ≡ rounds t (answer method t m)
  pub by_at_once : at_once s (answer method s m) ≡ at_once t (answer method t m)
  pub each_mark : (k : ℕ) → k < s.rows → (R : List ℕ) → marked (answer method s m) R k ≡ marked (answer method t m) R k
  pub same-marks : (R : List ℕ) → marks s (answer method s m) R ≡ marks t (answer method t m) R
  pub same-accepted : (R : List ℕ) → accepted s (answer method s m) R ≡ accepted t (answer method t m) R
