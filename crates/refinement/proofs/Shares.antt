-- Shares worked out once, and capped, give both right sides: at X within the deadline the cap X − C + 1 is no more than D − C + 1.
use mathlib.Core.Path.{◌≡◌, sym, ◌∙◌, ap}
use mathlib.Core.List.{List}
use Prim.Native.Nat.{ℕ, ◌+◌, ◌-◌, ◌/◌, ◌≤◌, ◌<◌, min}
use native.Mathlib.Nat.{le_trans}
use native.Mathlib.Decide.{ℕ_discrete}
use native.Mathlib.Omega.{arith}
use lib.ListN.{length, get_or}
use Rattle.laws.specs.Sum.{total, unless}
use Rattle.laws.proofs.Sum.{total-same, total-within, unless_here, unless_other}
use Rattle.laws.proofs.Fill.{listed-length, listed_at}
use Rattle.model.specs.Sheet.{Sheet}
use Rattle.model.specs.Interference.{share_of, work_of, others, bcl_term, bcl_value, rta_term, rta_right}
use Rattle.model.proofs.Sheet.{row_sized, few_rows}
use Rattle.refinement.specs.Inner.{shares, listed_share, term_of, Prepared}
use Rattle.refinement.proofs.Limits.{term_within_cap}

-- A cap above a lower one changes nothing.
lower_cap : (share low high : ℕ) → low ≤ high → min (min share high) low ≡ min share low
lower_cap share low high h = omega arith

module _ (s : Sheet) (k : ℕ) (R : List ℕ) where
  -- One number for each row.
  pub shares-length : length (shares s k R) ≡ s.rows
  unfolding shares
  shares-length = listed-length (unless k (bcl_term s k R)) s.rows

  -- At each other row its term, and 0 at row k.
  pub shares_at : (i : ℕ) → i < s.rows → get_or (shares s k R) i 0 ≡ unless k (bcl_term s k R) i
  unfolding shares
  shares_at i h = listed_at (unless k (bcl_term s k R)) s.rows i h

  -- What holds of 0 and of every term holds of what stands at each row.
  at_each : (P : ℕ → ℕ → Type 0) (i : ℕ) → P k 0 → P i (bcl_term s k R i) → P i (unless k (bcl_term s k R) i)
  at_each P i own other = decided (ℕ_discrete i k)
    where
      decided : Dec (i ≡ k) → P i (unless k (bcl_term s k R) i)
      decided (yes here) = rw (here, unless_here) own
      decided (no elsewhere) = rw (unless_other k (bcl_term s k R) i elsewhere) other

  -- None is above D − C + 1.
  pub shares_capped : (i : ℕ) → i < s.rows → get_or (shares s k R) i 0 ≤ s.deadline k - s.cost k + 1
  unfolding bcl_term
  shares_capped i h =
      rw (shares_at i h) (at_each (λ i x. x ≤ s.deadline k - s.cost k + 1) i (omega arith) (omega arith))

  -- Their sum is BCL's sum over every other place.
  pub shares_sum : total (λ i. get_or (shares s k R) i 0) s.rows ≡ others s k (bcl_term s k R)
  unfolding others
  shares_sum = total-same (λ i. get_or (shares s k R) i 0) (unless k (bcl_term s k R)) s.rows shares_at

  -- At X within the deadline a term from the capped share is RTA's term, and 0 at row k.
  term_at : (x i : ℕ) → x ≤ s.deadline k → i < s.rows
      → term_of s R (listed_share (shares s k R)) x (x - s.cost k + 1) i ≡ unless k (rta_term s k R x) i
  unfolding term_of rta_term bcl_term
  term_at x i within h = decided (ℕ_discrete i k)
    where
      decided : Dec (i ≡ k) → term_of s R (listed_share (shares s k R)) x (x - s.cost k + 1) i ≡ unless k (rta_term s k R x) i
      decided (yes here) =
          let nothing : get_or (shares s k R) i 0 ≡ 0 = shares_at i h ∙ rw here (unless_here k (bcl_term s k R)) in
          rw (nothing, here, unless_here) (omega arith)
      decided (no elsewhere) =
          let other : get_or (shares s k R) i 0 ≡ bcl_term s k R i = shares_at i h ∙ unless_other k (bcl_term s k R) i elsewhere in
          rw (other, unless_other k (rta_term s k R x) i elsewhere)
          (ap (min (work_of s R x i)) (lower_cap (share_of s k R i) (x - s.cost k + 1) (s.deadline k - s.cost k + 1) (omega arith)))

  -- The sum of the terms is RTA's sum over every other place.
  pub terms_sum : (x : ℕ) → x ≤ s.deadline k
      → total (term_of s R (listed_share (shares s k R)) x (x - s.cost k + 1)) s.rows ≡ others s k (rta_term s k R x)
  unfolding others
  terms_sum x within =
      total-same (term_of s R (listed_share (shares s k R)) x (x - s.cost k + 1)) (unless k (rta_term s k R x)) s.rows (λ i h. term_at x i within h)

module _ (s : Sheet) (R taken : List ℕ) (row count m : ℕ) (prepared : Prepared s R taken row count m) where
  -- As many rows as the sheet has.
  pub prepared_rows : count ≡ s.rows
  prepared_rows = prepared.counted

  pub prepared_length : length taken ≡ count
  prepared_length =
      ap length prepared.shared ∙ shares-length s row R ∙ sym prepared_rows

  -- Each share is at most a million, since D − C + 1 is.
  pub prepared_small : (i : ℕ) → i < count → get_or taken i 0 ≤ 1_000_000
  prepared_small i h =
      let sized = row_sized s prepared.ready.rows row prepared.inside in
      rw prepared.shared
      (omega (arith, shares_capped s row R i (rw (← prepared_rows) h)))

  -- Sums of them stay below 64 millions.
  pub shares_sum_small : total (λ i. get_or taken i 0) count ≤ 64_000_000
  shares_sum_small =
      omega (arith, total-within (λ i. get_or taken i 0) 1_000_000 count prepared_small, prepared.counted, few_rows s prepared.ready.rows)

  pub terms_sum_small : (x cap : ℕ) → cap ≤ 1_000_000 → total (term_of s R (listed_share taken) x cap) count ≤ 64_000_000
  terms_sum_small x cap small =
      omega (
        arith,
        total-within (term_of s R (listed_share taken) x cap) 1_000_000 count
            (λ i h. le_trans (term_within_cap s R (listed_share taken) x cap i) small),
        prepared.counted,
        few_rows s prepared.ready.rows,
      )

  -- BCL's value from their sum.
  pub value_from_shares : (own sum : ℕ) → own ≡ s.cost row → sum ≡ total (λ i. get_or taken i 0) count
      → own + sum / m ≡ bcl_value s m row R
  unfolding bcl_value
  value_from_shares own sum is_cost is_sum =
      let all : sum ≡ others s row (bcl_term s row R) =
      is_sum
      ∙ ap (total (λ i. get_or taken i 0)) prepared_rows
      ∙ ap (λ (l : List ℕ). total (λ i. get_or l i 0) s.rows) prepared.shared
      ∙ shares_sum s row R in
      cc

  -- RTA's right side from the terms.
  pub right_from_terms : (own sum x : ℕ) → own ≡ s.cost row → x ≤ s.deadline row
      → sum ≡ total (term_of s R (listed_share taken) x (x - own + 1)) count → own + sum / m ≡ rta_right s m row R x
  unfolding rta_right
  right_from_terms own sum x is_cost within is_sum =
      let all : sum ≡ others s row (rta_term s row R x) =
      is_sum
      ∙ ap (total (term_of s R (listed_share taken) x (x - own + 1))) prepared_rows
      ∙ ap (λ (l : List ℕ). total (term_of s R (listed_share l) x (x - own + 1)) s.rows) prepared.shared
      ∙ ap (λ (c : ℕ). total (term_of s R (listed_share (shares s row R)) x (x - c + 1)) s.rows) is_cost
      ∙ terms_sum s row R x within in
      cc
