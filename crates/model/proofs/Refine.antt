-- Refinement ends at the largest consistent set, for any one-row answer that lies from cost to deadline and keeps order. Every set of
-- bounds on the way holds three things: one bound a row, no turn above it, every supported set below it. A pass keeps them and lowers
-- the sum of the bounds until it changes nothing.
use mathlib.Core.Path.{◌≡◌, refl, sym, ◌∙◌, ap}
use mathlib.Core.Bool.{Bool, true, false}
use mathlib.Core.List.{List}
use mathlib.Core.Logic.{⊎_elim}
use mathlib.Core.Option.{Option, none, some}
use Prim.Native.Nat.{ℕ, zero, suc, ◌+◌, ◌-◌, ◌≤◌, ◌<◌, min}
use native.Mathlib.Nat.{le_refl, le_trans, le_of_suc-le, le_of_eq, eq-or-lt_of_le, le_of_suc-le-suc}
use native.Mathlib.Decide.{ℕ_discrete}
use native.Mathlib.Omega.{arith}
use lib.ListN.{length, get_or, set, length-set}
use lib.Seq.{get_or-set_same, get_or-set_other, set-get_or}
use Rattle.laws.specs.Choice.{pick, or_else, Better}
use Rattle.laws.specs.Sum.{total}
use Rattle.laws.specs.Fill.{same, Below}
use Rattle.laws.proofs.Choice.{never_both, better_or_else}
use Rattle.laws.proofs.Sum.{total_mono, total-same, total_add}
use Rattle.laws.proofs.Fill.{listed-length, listed_at, same_true, same_self, below_lowers}
use Rattle.model.specs.Sheet.{Sheet}
use Rattle.model.specs.Refine.{Ask, deadlines, turn, round, sweep, until, Consistent}
use Rattle.model.specs.Inner.{Held}

-- What refinement asks of a one-row answer: it lies from the cost to the deadline, and smaller bounds give a better one.
pub record Regular (s : Sheet) (ask : Ask) : Type 0 where
  pub within : (k : ℕ) (R : List ℕ) (x : ℕ) → ask k R ≡ some x → (s.cost k ≤ x) × (x ≤ s.deadline k)
  pub keeps_order : (k : ℕ) (Q R : List ℕ) → Below s.rows Q R → Better (ask k Q) (ask k R)

-- What a pass does to bounds that hold these: it keeps them, lowers the bounds, and leaves only a consistent set as it is.
pub record Pass (s : Sheet) (ask : Ask) (pass : List ℕ → List ℕ) : Type 0 where
  pub keeps : (R : List ℕ) → Held s ask R → Held s ask (pass R)
  pub lowers : (R : List ℕ) → Held s ask R → Below s.rows (pass R) R
  pub settles : (R : List ℕ) → Held s ask R → pass R ≡ R → Consistent s ask R

-- Where the passes end.
pub record Ended (s : Sheet) (ask : Ask) (pass : List ℕ → List ℕ) (R : List ℕ) : Type 0 where
  pub held : Held s ask R
  pub still : pass R ≡ R

module _ (s : Sheet) (ask : Ask) (regular : Regular s ask) where
  -- A turn gives at most the deadline.
  pub turn_by_deadline : (k : ℕ) (R : List ℕ) → turn s ask k R ≤ s.deadline k
  unfolding turn
  turn_by_deadline k R = better_or_else (ask k R) none (s.deadline k) (anything (ask k R)) (λ x found. (regular.within k R x found).1)
    where
      anything : (a : Option ℕ) → Better a none
      anything none = tt
      anything (some x) = tt

  -- And at least the cost, or the deadline where that is less.
  pub turn_from_cost : (k : ℕ) (R : List ℕ) → min (s.cost k) (s.deadline k) ≤ turn s ask k R
  unfolding turn
  turn_from_cost k R = at_least (ask k R) (λ x found. (regular.within k R x found).0)
    where
      at_least : (a : Option ℕ) → ((x : ℕ) → a ≡ some x → s.cost k ≤ x) → min (s.cost k) (s.deadline k) ≤ or_else a (s.deadline k)
      at_least none within = omega arith
      at_least (some x) within = omega (arith, within x refl)

  -- Smaller bounds give a smaller turn.
  pub turn_mono : (k : ℕ) (Q R : List ℕ) → Below s.rows Q R → turn s ask k Q ≤ turn s ask k R
  unfolding turn
  turn_mono k Q R below =
      better_or_else (ask k Q) (ask k R) (s.deadline k) (regular.keeps_order k Q R below) (λ x found. (regular.within k Q x found).1)

  -- The deadlines hold what every set on the way holds.
  pub deadlines_held : Held s ask (deadlines s)
  unfolding deadlines
  deadlines_held =
      record {
        one_each = listed-length s.deadline s.rows;
        falls = λ k h. rw (listed_at s.deadline s.rows k h) (turn_by_deadline k (deadlines s));
        covers = λ Q supported k h.
            rw (listed_at s.deadline s.rows k h) (le_trans (supported k h) (turn_by_deadline k Q));
      }

  -- Bounds lowered no further than their turns still hold it: turns fall with them, and a supported set is below the turns.
  pub lowered : (R R' : List ℕ) → Held s ask R → length R' ≡ s.rows → Below s.rows R' R
      → ((k : ℕ) → k < s.rows → turn s ask k R ≤ get_or R' k 0) → Held s ask R'
  lowered R R' held one_each below no_further =
      record {
        one_each = one_each;
        falls = λ k h. le_trans (turn_mono k R' R below) (no_further k h);
        covers = λ Q supported k h.
            le_trans (supported k h) (le_trans (turn_mono k Q R (held.covers Q supported)) (no_further k h));
      }

  -- What a round puts at each row.
  round_at : (R : List ℕ) (k : ℕ) → k < s.rows → get_or (round s ask R) k 0 ≡ turn s ask k R
  unfolding round
  round_at R k h = listed_at (λ k. turn s ask k R) s.rows k h

  round_lowers : (R : List ℕ) → Held s ask R → Below s.rows (round s ask R) R
  round_lowers R held k h = rw (round_at R k h) (held.falls k h)

  round-length : (R : List ℕ) → length (round s ask R) ≡ s.rows
  unfolding round
  round-length R = listed-length (λ k. turn s ask k R) s.rows

  -- A round is a pass: one it leaves as it is has each bound equal to its turn.
  pub round_pass : Pass s ask (round s ask)
  round_pass =
      record {
        keeps = λ R held. lowered R (round s ask R) held (round-length R) (round_lowers R held) (λ k h. le_of_eq (sym (round_at R k h)));
        lowers = round_lowers;
        settles = λ R held still.
            record { one_each = held.one_each; by_turn = λ k h. ap (λ (l : List ℕ). get_or l k 0) (sym still) ∙ round_at R k h };
      }

  -- What holds of the row put in place and of a row left alone holds of each row.
  after_one : (P : ℕ → ℕ → Type 0) (R : List ℕ) (k x : ℕ) → length R ≡ s.rows → k < s.rows → P k x → (j : ℕ) → P j (get_or R j 0)
      → P j (get_or (set R k x) j 0)
  after_one P R k x one_each h put j left = decided (ℕ_discrete j k)
    where
      decided : Dec (j ≡ k) → P j (get_or (set R k x) j 0)
      decided (yes here) = rw (here, get_or-set_same R k x 0 (rw one_each h)) put
      decided (no other) = rw (get_or-set_other R k j x 0 other) left

  pub one_lowers : (R : List ℕ) (k x : ℕ) → length R ≡ s.rows → k < s.rows → x ≤ get_or R k 0 → Below s.rows (set R k x) R
  one_lowers R k x one_each h lower j inside = after_one (λ j y. y ≤ get_or R j 0) R k x one_each h lower j (le_refl (get_or R j 0))

  -- DOWN: a row lowered to any number that its turn does not pass. How the number was found needs no word.
  pub down : (R : List ℕ) (k x : ℕ) → Held s ask R → k < s.rows → turn s ask k R ≤ x → x ≤ get_or R k 0 → Held s ask (set R k x)
  down R k x held h no_further lower =
      lowered R (set R k x) held (length-set R k x ∙ held.one_each) (one_lowers R k x held.one_each h lower)
      (λ j inside. after_one (λ j y. turn s ask j R ≤ y) R k x held.one_each h no_further j (held.falls j inside))

  -- One turn in place: its row holds the turn, every other row what it held.
  one_turn_at : (R : List ℕ) (k : ℕ) → length R ≡ s.rows → k < s.rows → get_or (set R k (turn s ask k R)) k 0 ≡ turn s ask k R
  one_turn_at R k one_each h = get_or-set_same R k (turn s ask k R) 0 (rw one_each h)

  pub one_turn_lowers : (R : List ℕ) (k : ℕ) → Held s ask R → k < s.rows → Below s.rows (set R k (turn s ask k R)) R
  one_turn_lowers R k held h = one_lowers R k (turn s ask k R) held.one_each h (held.falls k h)

  pub one_turn_held : (R : List ℕ) (k : ℕ) → Held s ask R → k < s.rows → Held s ask (set R k (turn s ask k R))
  one_turn_held R k held h = down R k (turn s ask k R) held h (le_refl (turn s ask k R)) (held.falls k h)

  -- A sweep over the first rows is so many turns in place.
  pub sweep_held : (R : List ℕ) → Held s ask R → (k : ℕ) → k ≤ s.rows → Held s ask (sweep s ask k R)
  unfolding sweep
  sweep_held R held zero h = held
  sweep_held R held (suc k) h = one_turn_held (sweep s ask k R) k (sweep_held R held k (le_of_suc-le h)) h

  pub sweep_lowers : (R : List ℕ) → Held s ask R → (k : ℕ) → k ≤ s.rows → Below s.rows (sweep s ask k R) R
  unfolding sweep
  sweep_lowers R held zero h i inside = le_refl (get_or R i 0)
  sweep_lowers R held (suc k) h i inside =
      le_trans (one_turn_lowers (sweep s ask k R) k (sweep_held R held k (le_of_suc-le h)) h i inside)
      (sweep_lowers R held k (le_of_suc-le h) i inside)

  -- A row keeps what its turn in the sweep gave it.
  sweep_at : (R : List ℕ) → Held s ask R → (j k : ℕ) → j ≤ s.rows → k < j → get_or (sweep s ask j R) k 0 ≡ turn s ask k (sweep s ask k R)
  unfolding sweep
  sweep_at R held zero k inside h = absurd (omega arith)
  sweep_at R held (suc j) k inside h =
      let swept = sweep s ask j R in
      ⊎_elim
      (λ (last : k ≡ j). rw last (one_turn_at swept j (sweep_held R held j (le_of_suc-le inside)).one_each inside))
      (λ (before : k < j).
      get_or-set_other swept j k (turn s ask j swept) 0 (λ here. omega arith) ∙ sweep_at R held j k (le_of_suc-le inside) before)
      (eq-or-lt_of_le (le_of_suc-le-suc h))

  -- If a whole sweep changes nothing and the rows before k did not, row k's turn gives the bound that was there.
  still_turn : (R : List ℕ) → Held s ask R → sweep s ask s.rows R ≡ R → (k : ℕ) → k < s.rows → sweep s ask k R ≡ R
      → get_or R k 0 ≡ turn s ask k R
  still_turn R held still k h before =
      ap (λ (l : List ℕ). get_or l k 0) (sym still)
      ∙ sweep_at R held s.rows k (le_refl s.rows) h
      ∙ ap (turn s ask k) before

  -- If a whole sweep changes nothing, no part of it does: each turn gave the bound that was there.
  sweep_still : (R : List ℕ) → Held s ask R → sweep s ask s.rows R ≡ R → (k : ℕ) → k ≤ s.rows → sweep s ask k R ≡ R
  unfolding sweep
  sweep_still R held still zero h = refl
  sweep_still R held still (suc k) h =
      let before : sweep s ask k R ≡ R = sweep_still R held still k (le_of_suc-le h) in
      ap (λ (l : List ℕ). set l k (turn s ask k l)) before
      ∙ ap (set R k) (sym (still_turn R held still k h before))
      ∙ set-get_or R k 0

  -- A sweep over all rows is a pass.
  pub sweep_pass : Pass s ask (sweep s ask s.rows)
  sweep_pass =
      record {
        keeps = λ R held. sweep_held R held s.rows (le_refl s.rows);
        lowers = λ R held. sweep_lowers R held s.rows (le_refl s.rows);
        settles = λ R held still. record { one_each = held.one_each; by_turn = λ k h. still_turn R held still k h (sweep_still R held still k (le_of_suc-le h)) };
      }

  -- The sum of the bounds never falls below that of the costs, or of the deadlines where these are less.
  floor_within : (R : List ℕ) → Held s ask R → total (λ k. min (s.cost k) (s.deadline k)) s.rows ≤ total (λ k. get_or R k 0) s.rows
  floor_within R held =
      total_mono (λ k. min (s.cost k) (s.deadline k)) (λ k. get_or R k 0) s.rows
      (λ k h. le_trans (turn_from_cost k R) (held.falls k h))

  -- The sum of the deadlines is that floor and the sum of D − C.
  pub deadlines_sum : total (λ k. get_or (deadlines s) k 0) s.rows
      ≡ total (λ k. min (s.cost k) (s.deadline k)) s.rows + total (λ k. s.deadline k - s.cost k) s.rows
  unfolding deadlines
  deadlines_sum =
      total-same (λ k. get_or (deadlines s) k 0) (λ k. min (s.cost k) (s.deadline k) + (s.deadline k - s.cost k)) s.rows
      (λ k h. listed_at s.deadline s.rows k h ∙ omega arith)
      ∙ total_add (λ k. min (s.cost k) (s.deadline k)) (λ k. s.deadline k - s.cost k) s.rows

  module _ (pass : List ℕ → List ℕ) (is_pass : Pass s ask pass) where
    -- A pass that changes something lowers the sum.
    pub sum_falls : (R : List ℕ) → Held s ask R → (pass R ≡ R → ⊥) → total (λ k. get_or (pass R) k 0) s.rows < total (λ k. get_or R k 0) s.rows
    sum_falls R held changes =
        below_lowers s.rows (pass R) R (is_pass.keeps R held).one_each held.one_each (is_pass.lowers R held) changes

    -- With as many passes as the sum lies above the floor, the passes end.
    pub until_ends : (most : ℕ) (R : List ℕ) → Held s ask R
        → total (λ k. get_or R k 0) s.rows < total (λ k. min (s.cost k) (s.deadline k)) s.rows + most
        → Ended s ask pass (until pass most R)
    unfolding until
    until_ends zero R held room = absurd (omega (arith, floor_within R held))
    until_ends (suc most) R held room =
        decided (same (pass R) R) refl
        (λ changed. until_ends most (pass R) (is_pass.keeps R held) (omega (arith, sum_falls R held (λ unchanged. never_both (rw unchanged (same_self R)) changed))))
      where
        decided : (b : Bool) → same (pass R) R ≡ b → (same (pass R) R ≡ false → Ended s ask pass (until pass most (pass R)))
            → Ended s ask pass (pick b R (until pass most (pass R)))
        decided true unchanged further = record { held = held; still = same_true (pass R) R unchanged }
        decided false changed further = further changed
