-- What only inner functions cite: no user need believe it.
use Rattle.std.specs.Prelude.{◌≡◌, List, ℕ, ◌+◌, ◌*◌, ◌-◌, ◌/◌, ◌≤◌, ◌<◌, min, ltb, length, get_or}
use Rattle.laws.specs.Choice.{pick}
use Rattle.laws.specs.Sum.{total}
use Rattle.model.specs.Sheet.{Sheet}
use Rattle.model.specs.Demand.{demand_of, demand}
use Rattle.rows.specs.Words.{Found}
use Rattle.std.specs.declared.option.Option.TheVariants.{Some, None}
use Rattle.verdict.specs.declared.Look.{Look}
use Rattle.verdict.specs.declared.Note.{Note}
use Rattle.verdict.specs.declared.Outcome.{Outcome}
use Rattle.verdict.specs.declared.Outcome.TheVariants.{Fits, Undecided}

-- The jobs of a row with deadline d and period p that are due within t.
unfoldable pub jobs_within : ℕ → ℕ → ℕ → ℕ
jobs_within d p t = pick (ltb t d) 0 ((t - d) / p + 1)

-- The first deadline behind a length.
unfoldable pub next_due : ℕ → ℕ → ℕ → ℕ
next_due d p t = d + jobs_within d p t * p

-- A look at the row at place i in length t.
unfoldable pub look_of : Sheet → ℕ → ℕ → Look
look_of s t i =
    let next = next_due (s.deadline i) (s.period i) t in
    record { demand = demand_of s t i; since = next - s.period i; next = next }

-- The last length to look at: the busy length, else the horizon.
unfoldable pub furthest : Found → ℕ → ℕ
furthest (Some b) horizon = b
furthest None horizon = horizon

-- What no miss up to that length shows.
unfoldable pub without_miss : Found → Outcome
without_miss (Some b) = Fits b
without_miss None = Undecided

-- Every length behind low, up to high, is clear.
abbrev pub Clear : Sheet → ℕ → ℕ → Type 0
Clear s low high = (u : ℕ) → low < u → u ≤ high → demand s u ≤ u

-- The rows go in groups of four, the last group perhaps of fewer: what group g demands in length t.
unfoldable pub group_demand : Sheet → ℕ → ℕ → ℕ
group_demand s t g = total (λ j. demand_of s t (4 * g + j)) (min 4 (s.rows - 4 * g))

-- The note of a group.
abbrev pub note_of : List Note → ℕ → Note
note_of notes g = get_or notes g (record { demand = 0; since = 0 })

-- What is noted of each group is at least its demand in length t, and small.
pub record Noted (s : Sheet) (t : ℕ) (notes : List Note) : Type 0 where
  pub room : length notes ≡ 16
  pub enough : (g : ℕ) → g < 16 → group_demand s t g ≤ (note_of notes g).demand
  pub small : (g : ℕ) → g < 16 → (note_of notes g).demand ≤ 67_108_864

-- The gap between two ends made narrower: what its lower end has passed is clear.
pub record Narrower (s : Sheet) (clear stopped lower upper : ℕ) : Type 0 where
  pub left : lower < upper
  pub upto : upper ≤ stopped
  pub shorter : upper - lower < stopped - clear
  pub passed : Clear s clear lower
