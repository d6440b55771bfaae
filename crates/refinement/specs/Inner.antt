-- What only inner functions and proofs cite: no user need believe it.
use Rattle.std.specs.Prelude.{◌≡◌, Bool, true, false, List, ℕ, ◌+◌, ◌*◌, ◌-◌, ◌≤◌, ◌<◌, min, eqb, length, get_or, MatchOption}
use Rattle.laws.specs.Choice.{pick}
use Rattle.laws.specs.Sum.{total, unless}
use Rattle.laws.specs.Fill.{listed}
use Rattle.model.specs.Sheet.{Sheet}
use Rattle.model.specs.Interference.{share, work_of, bcl_term}
use Rattle.model.specs.Refine.{Ask, marks}
use Rattle.model.specs.Inner.{Held}
use Rattle.rows.specs.Words.{Found}
use Rattle.std.specs.declared.option.Option.TheVariants.{Some, None}
use Rattle.refinement.specs.Question.{Ready}
use Rattle.refinement.specs.Refinement.{ask_of}
pub mod Kept
pub mod Ray

-- The most that each other row takes of the time before row k's deadline, and 0 for row k.
unfoldable pub shares : Sheet → ℕ → List ℕ → List ℕ
shares s k R = listed (unless k (bcl_term s k R)) s.rows

-- A row's deadline window, and the most that any other row counts for in it: D − C + 1.
pub record WindowOf (s : Sheet) (row window cap : ℕ) : Type 0 where
  pub by_deadline : window ≡ s.deadline row
  pub by_cost : cap ≡ s.deadline row - s.cost row + 1

-- What one other row adds to the right side at X, with the share that it is given: its work, that share, or the cap, whichever is least.
unfoldable pub term_of : Sheet → List ℕ → (ℕ → ℕ) → ℕ → ℕ → ℕ → ℕ
term_of s R given x cap i = min (work_of s R x i) (min (given i) cap)

-- Shares as a list holds them.
abbrev pub listed_share : List ℕ → ℕ → ℕ
listed_share taken i = get_or taken i 0

-- The share of row i in a window.
unfoldable pub share_in : Sheet → List ℕ → ℕ → ℕ → ℕ
share_in s R window i = share (s.cost i) (s.deadline i) (s.period i) (get_or R i 0) window

-- A row under question, with what the others take worked out.
pub record Prepared (s : Sheet) (R taken : List ℕ) (row count processors : ℕ) : Type 0 where
  pub ready : Ready s R
  pub inside : row < s.rows
  pub counted : count ≡ s.rows
  pub shared : taken ≡ shares s row R
  pub some_processor : 1 ≤ processors

-- Bounds on the way to an engine's end, with as many rows counted as there are: ready, and holding what bounds on the way hold.
pub record Running (s : Sheet) (R : List ℕ) (count processors method : ℕ) : Type 0 where
  pub ready : Ready s R
  pub counted : count ≡ s.rows
  pub some_processor : 1 ≤ processors
  pub few : processors ≤ 64
  pub held : Held s (ask_of s processors method) R

-- Whether there is an answer.
unfoldable pub is_found : Found → Bool
is_found (Some bound) = true
is_found None = false

-- The sum of the bounds, which falls with each pass that changes one.
unfoldable pub bounds_sum : Sheet → List ℕ → ℕ
bounds_sum s R = total (λ k. get_or R k 0) s.rows

-- What a pass leaves and tells: the bounds that its definition gives; no marks and a smaller sum, or the bounds it met and their marks.
pub record AfterPass (s : Sheet) (ask : Ask) (pass : List ℕ → List ℕ) (before after : List ℕ) (told : Found) : Type 0 where
  pub exact : after ≡ pass before
  pub outcome : MatchOption told (bounds_sum s after < bounds_sum s before) (λ seen. (after ≡ before) × (seen ≡ marks s ask before))

-- What a row's term comes to for certain, one a step, before a new job must come: one cost more than its whole periods have, and never more
-- than its share. A row whose cost fills its period always has a job.
unfoldable pub reach : ℕ → ℕ → ℕ → ℕ → ℕ
reach cost period whole share = pick (eqb cost period) share (min (whole + cost) share)

-- A jump on which the sum keeps up: what is gained already, and what the rooms let through in so many steps, is no less than m a step.
pub record Jumped (room : List ℕ) (gain m most far : ℕ) : Type 0 where
  pub within : far ≤ most
  pub gains : m * far ≤ gain + total (λ i. min far (get_or room i 0)) (length room)

-- Rooms of at most 64 rows, none above a million.
pub record Rooms (room : List ℕ) : Type 0 where
  pub few : length room ≤ 64
  pub small : (i : ℕ) → i < length room → get_or room i 0 ≤ 1_000_000
