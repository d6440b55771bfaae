-- What an allowed sheet gives each inner function: every row has its sizes, so what is worked out of it stays small.
use mathlib.Core.Path.{◌≡◌, ap}
use Prim.Native.Nat.{ℕ, ◌+◌, ◌*◌, ◌-◌, ◌/◌, ◌≤◌, ◌<◌}
use native.Mathlib.Nat.{le_trans}
use native.Mathlib.Omega.{arith}
use Rattle.laws.specs.Sum.{total}
use Rattle.laws.proofs.Sum.{total-within}
use Rattle.model.specs.Sheet.{Sheet, Allowed}
use Rattle.model.specs.Demand.{demand_of, busy_of, busy}
use Rattle.model.proofs.Sheet.{SizedRow, row_sized, some_rows, few_rows}
use Rattle.verdict.specs.Inner.{jobs_within}
use Rattle.verdict.proofs.Row.{sized_fits, look_small}
use Rattle.verdict.proofs.Busy.{busy_rises, ceiling_from_one, busy_small}

module _ (s : Sheet) (sizes : Allowed s) (row : ℕ) (here : row < s.rows) where
  -- A row has its sizes.
  pub row_sizes : SizedRow (s.cost row) (s.deadline row) (s.period row)
  row_sizes = row_sized s sizes row here

  -- It demands at most the length.
  pub row_demand_fits : (length : ℕ) → demand_of s length row ≤ length
  unfolding demand_of
  row_demand_fits length = sized_fits _ _ _ length row_sizes

  -- A look at it in a length that no horizon exceeds has small numbers.
  pub row_look_small : {length jobs : ℕ} → length ≤ 16_777_216 → jobs ≡ jobs_within (s.deadline row) (s.period row) length
      → (jobs * s.cost row ≤ 16_777_216) × (s.deadline row + jobs * s.period row ≤ 17_777_216)
  row_look_small within counted = rw counted (look_small _ _ _ _ row_sizes within)

  -- Its part of the busy sum is worked out, from length 1 on, by the whole periods before the last unit of the length.
  pub row_busy_worked : (length : ℕ) → 1 ≤ length → ((length - 1) / s.period row + 1) * s.cost row ≡ busy_of s length row
  unfolding busy_of
  row_busy_worked length some-length =
      let sizes = row_sizes in
      ap (λ (jobs : ℕ). jobs * s.cost row) (ceiling_from_one (s.period row) length (omega arith) some-length)

  -- In a length that no horizon exceeds the part is at most 17,777,216.
  pub row_busy_small : (length : ℕ) → length ≤ 16_777_216 → busy_of s length row ≤ 17_777_216
  unfolding busy_of
  row_busy_small length within =
      let sizes = row_sizes in
      omega (arith, busy_small (s.cost row) (s.period row) length (omega arith))

module _ (s : Sheet) (sizes : Allowed s) where
  -- No row of the sheet demands more than 16,777,216 in a length that no horizon exceeds.
  pub demand_small : (length : ℕ) → length ≤ 16_777_216 → (row : ℕ) → row < s.rows → demand_of s length row ≤ 16_777_216
  demand_small length within row here = le_trans (row_demand_fits s sizes row here length) within

  -- And the busy sum over at most 64 rows stays small.
  pub busy_sum_small : (length : ℕ) → length ≤ 16_777_216 → (row : ℕ) → row < s.rows
      → total (busy_of s length) row + busy_of s length row ≤ 1_137_741_824
  busy_sum_small length within row here =
      let each : (i : ℕ) → i < s.rows → busy_of s length i ≤ 17_777_216 = λ i below. row_busy_small s sizes i below length within in
      omega (arith, few_rows s sizes, each row here, total-within (busy_of s length) 17_777_216 row (λ i below. each i (omega arith)))

  -- Length 1 is not above its busy sum: there is a row.
  pub busy_from_one : 1 ≤ busy s 1
  busy_from_one =
      let first_there : 0 < s.rows = some_rows s sizes in
      let first = row_sized s sizes 0 first_there in
      busy_rises s 0 first_there first.positive (omega arith)
