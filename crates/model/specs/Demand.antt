-- One processor, exact.
use Rattle.std.specs.Prelude.{◌≡◌, ℕ, ◌+◌, ◌*◌, ◌-◌, ◌/◌, ◌≤◌, ◌<◌, ltb, eqb}
use Rattle.std.proofs.Math.Option.{Option, none, some}
use Rattle.laws.specs.Choice.{pick}
use Rattle.laws.specs.Sum.{total}
use Rattle.laws.specs.Search.{least}
use Rattle.model.specs.Sheet.{Sheet}

-- Demand of a row in length t: 0 if t < D, else (floor((t − D) / T) + 1) × C.
unfoldable pub row_demand : ℕ → ℕ → ℕ → ℕ → ℕ
row_demand c d period t = pick (ltb t d) 0 (((t - d) / period + 1) * c)

-- Demand of the row at place i.
unfoldable pub demand_of : Sheet → ℕ → ℕ → ℕ
demand_of s t i = row_demand (s.cost i) (s.deadline i) (s.period i) t

-- The sheet's demand: the sum over all rows.
unfoldable pub demand : Sheet → ℕ → ℕ
demand s t = total (demand_of s t) s.rows

-- ceil(a / b).
unfoldable pub ceiling : ℕ → ℕ → ℕ
ceiling a b = (a + b - 1) / b

-- ceil(t / T) × C of the row at place i.
unfoldable pub busy_of : Sheet → ℕ → ℕ → ℕ
busy_of s t i = ceiling t (s.period i) * s.cost i

-- The sum of ceil(t / T) × C.
unfoldable pub busy : Sheet → ℕ → ℕ
busy s t = total (busy_of s t) s.rows

-- The busy length, if it is within h: the least t ≥ 1 equal to the sum of ceil(t / T) × C.
unfoldable pub busy_length : Sheet → ℕ → Option ℕ
busy_length s h = least (λ t. eqb t (busy s t)) 1 h

-- The least length within h with demand above it.
unfoldable pub first_miss : Sheet → ℕ → Option ℕ
first_miss s h = least (λ t. ltb t (demand s t)) 1 h

-- The three answers.
pub data Verdict : Type 0 where
  miss fits : ℕ → Verdict
  undecided : Verdict

-- A miss, else the busy length, else neither.
unfoldable pub judged : Option ℕ → Option ℕ → Verdict
judged (some t) b = miss t
judged none (some b) = fits b
judged none none = undecided

-- The verdict with horizon h.
unfoldable pub verdict : Sheet → ℕ → Verdict
verdict s h = judged (first_miss s h) (busy_length s h)

-- b is the busy length.
pub record Busy (s : Sheet) (b : ℕ) : Type 0 where
  pub positive : 1 ≤ b
  pub equal : b ≡ busy s b
  pub lowest : (t : ℕ) → 1 ≤ t → t < b → t ≡ busy s t → ⊥

-- miss t: t is the least length with demand above t, and t ≤ H.
pub record Misses (s : Sheet) (h t : ℕ) : Type 0 where
  pub positive : 1 ≤ t
  pub within : t ≤ h
  pub over : t < demand s t
  pub lowest : (u : ℕ) → 1 ≤ u → u < t → demand s u ≤ u

-- fits b: the busy length b exists with b ≤ H, and no length at all has demand above it.
pub record Fits (s : Sheet) (h b : ℕ) : Type 0 where
  pub busy-length : Busy s b
  pub within : b ≤ h
  pub never_over : (t : ℕ) → 1 ≤ t → demand s t ≤ t

-- undecided: neither a miss up to H nor a busy length up to H.
pub record Undecided (s : Sheet) (h : ℕ) : Type 0 where
  pub no_miss : (t : ℕ) → 1 ≤ t → t ≤ h → demand s t ≤ t
  pub not-busy : (t : ℕ) → 1 ≤ t → t ≤ h → t ≡ busy s t → ⊥

-- What each verdict means.
abbrev pub Means : Sheet → ℕ → Verdict → Type 0
Means s h (miss t) = Misses s h t
Means s h (fits b) = Fits s h b
Means s h undecided = Undecided s h
