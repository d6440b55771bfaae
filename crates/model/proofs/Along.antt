-- A sheet that lies in another ends no higher in any row: its rows meet no more interference, so its final bounds, put where its rows lie
-- and 0 elsewhere, are supported there.
use mathlib.Core.Path.{◌≡◌, sym, ◌∙◌, ap}
use mathlib.Core.Bool.{true}
use mathlib.Core.List.{List}
use mathlib.Core.Option.{none, some}
use Prim.Native.Nat.{ℕ, ◌≤◌, ◌<◌}
use native.Mathlib.Nat.{add-le-add, le_refl, le_trans, le_of_eq}
use native.Mathlib.Omega.{arith}
use borrow.Author.Tests.{le-leb}
use lib.Dec.{leb}
use lib.ListN.{get_or}
use Rattle.laws.specs.Choice.{or_else, Better}
use Rattle.laws.specs.Fill.{listed}
use Rattle.laws.specs.Along.{UnderAlong, spread}
use Rattle.laws.proofs.Order.{div_mono, min_mono}
use Rattle.laws.proofs.Choice.{pick_yes, better_where, better_or_else, better_exists}
use Rattle.laws.proofs.Fill.{listed_at}
use Rattle.laws.proofs.Bits.{every_each, each_every}
use Rattle.laws.proofs.Along.{unless-along, spread_at, spread_each}
use Rattle.model.specs.Sheet.{Sheet}
use Rattle.model.specs.Interference.{share, work, share_of, work_of, others, bcl_term, bcl_value, rta_term, rta_right}
use Rattle.model.specs.Answer.{Method, BCL, RTA, bcl_answer, rta_answer, answer, Answers}
use Rattle.model.specs.Refine.{Ask, turn, rounds, at_once, marked, accepted, Supported}
use Rattle.model.specs.Alike.{LiesIn, Eased}
use Rattle.model.proofs.Interference.{share_mono, work_mono}
use Rattle.model.proofs.Answer.{answer_means, rta_below}
use Rattle.model.proofs.Refine.{Regular}
use Rattle.model.proofs.Engines.{rounds_largest, supported_below, same_end}

-- Row k of one sheet has it easier than row j of another: no larger cost, no earlier deadline, and no larger right side by either method.
pub record Eases (s : Sheet) (m k : ℕ) (Q : List ℕ) (t : Sheet) (m' j : ℕ) (R : List ℕ) : Type 0 where
  pub cost : s.cost k ≤ t.cost j
  pub deadline : t.deadline j ≤ s.deadline k
  pub by_bcl : bcl_value s m k Q ≤ bcl_value t m' j R
  pub by_rta : (x : ℕ) → rta_right s m k Q x ≤ rta_right t m' j R x

-- If some X within the deadline is no less than BCL's value, BCL's answer exists and is at most X.
bcl_below : (s : Sheet) (m k : ℕ) (R : List ℕ) (x : ℕ) → x ≤ s.deadline k → bcl_value s m k R ≤ x → Better (bcl_answer s m k R) (some x)
unfolding bcl_answer
bcl_below s m k R x within lower =
    rw (pick_yes (leb (bcl_value s m k R) (s.deadline k)) (some (bcl_value s m k R)) none (le-leb _ _ (le_trans lower within))) lower

-- A row that has it easier has the better answer, by either method.
pub answer_eases : (s : Sheet) (m k : ℕ) (Q : List ℕ) (t : Sheet) (m' j : ℕ) (R : List ℕ) → Eases s m k Q t m' j R → (method : Method)
    → Better (answer method s m k Q) (answer method t m' j R)
unfolding answer
answer_eases s m k Q t m' j R eases BCL =
    better_where (bcl_answer s m k Q) (bcl_answer t m' j R)
    (λ x found.
    let formula : Answers BCL t m' j R (some x) = rw found at (answer_means t m' j R BCL) in
    bcl_below s m k Q x (le_trans formula.by_deadline eases.deadline) (le_trans eases.by_bcl (le_of_eq (sym formula.value))))
answer_eases s m k Q t m' j R eases RTA =
    better_where (rta_answer s m k Q) (rta_answer t m' j R)
    (λ x found.
    let response : Answers RTA t m' j R (some x) = rw found at (answer_means t m' j R RTA) in
    rta_below s m k Q x (le_trans eases.cost response.from_cost) (le_trans response.by_deadline eases.deadline)
    (le_trans (eases.by_rta x) (le_of_eq (sym response.solves))))

-- The same row in the same window, with a smaller bound, has the smaller share.
same-share : {c c' d d' p p' w w' r r' : ℕ} → c ≡ c' → d ≡ d' → p ≡ p' → w ≡ w' → r ≤ r' → share c d p r w ≤ share c' d' p' r' w'
same-share cost deadline period window lower = rw (cost, deadline, period, window) (share_mono _ _ _ _ _ _ lower)

-- And does less work.
same-work : {c c' p p' r r' : ℕ} (x : ℕ) → c ≡ c' → p ≡ p' → r ≤ r' → work c p r x ≤ work c' p' r' x
same-work x cost period lower = rw (cost, period) (work_mono _ _ _ _ x x lower (le_refl x))

module _ (s t : Sheet) (e : ℕ → ℕ) (lies : LiesIn s t e) (k : ℕ) (here : k < s.rows) (Q R : List ℕ) (under : UnderAlong e s.rows Q R) where
  -- Where each row lies its share is no smaller.
  share-along : (i : ℕ) → i < s.rows → share_of s k Q i ≤ share_of t (e k) R (e i)
  unfolding share_of
  share-along i h = same-share (lies.cost i h) (lies.deadline i h) (lies.period i h) (lies.deadline k here) (under i h)

  -- Nor is its work.
  work-along : (x i : ℕ) → i < s.rows → work_of s Q x i ≤ work_of t R x (e i)
  unfolding work_of
  work-along x i h = same-work x (lies.cost i h) (lies.period i h) (under i h)

  -- Both right sides are no larger, with as many processors.
  lies_eases : (m : ℕ) → Eases s m k Q t m (e k) R
  unfolding bcl_value bcl_term rta_right rta_term others
  lies_eases m =
      let same_cost : s.cost k ≡ t.cost (e k) = lies.cost k here in
      let same_deadline : s.deadline k ≡ t.deadline (e k) = lies.deadline k here in
      record {
        cost = le_of_eq same_cost;
        deadline = le_of_eq (sym same_deadline);
        by_bcl =
            add-le-add (le_of_eq same_cost)
            (div_mono m
            (unless-along e s.rows t.rows k (bcl_term s k Q) (bcl_term t (e k) R) lies.places here
            (λ i h. min_mono (share-along i h) (omega arith))));
        by_rta = λ x.
            add-le-add (le_of_eq same_cost)
            (div_mono m
            (unless-along e s.rows t.rows k (rta_term s k Q x) (rta_term t (e k) R x) lies.places here
            (λ i h. min_mono (work-along x i h) (min_mono (share-along i h) (omega arith)))));
      }

-- So a row's answer is better than where it lies, by either method.
pub answer-along : (method : Method) (m : ℕ) (s t : Sheet) (e : ℕ → ℕ) → LiesIn s t e → (k : ℕ) → k < s.rows → (Q R : List ℕ)
    → UnderAlong e s.rows Q R → Better (answer method s m k Q) (answer method t m (e k) R)
answer-along method m s t e lies k here Q R under =
    answer_eases s m k Q t m (e k) R (lies_eases s t e lies k here Q R under m) method

-- The bounds of a sheet put where its rows lie in another, and 0 elsewhere.
abbrev placed : Sheet → Sheet → (ℕ → ℕ) → List ℕ → List ℕ
placed s t e Q = listed (spread e s.rows Q) t.rows

module _ (s t : Sheet) (e : ℕ → ℕ) (lies : LiesIn s t e) (ask ask' : Ask) (regular : Regular s ask) (regular' : Regular t ask')
    (along : (k : ℕ) → k < s.rows → (Q R : List ℕ) → UnderAlong e s.rows Q R → Better (ask k Q) (ask' (e k) R)) where
  -- Each bound stands where its row lies.
  placed_at : (Q : List ℕ) (k : ℕ) → k < s.rows → get_or (placed s t e Q) (e k) 0 ≡ get_or Q k 0
  placed_at Q k here =
      listed_at (spread e s.rows Q) t.rows (e k) (lies.places.inside k here)
      ∙ spread_at e s.rows t.rows Q k lies.places here

  -- A row's turn is no larger than the turn where it lies.
  turn_along : (Q R : List ℕ) → UnderAlong e s.rows Q R → (k : ℕ) → k < s.rows → turn s ask k Q ≤ turn t ask' (e k) R
  unfolding turn
  turn_along Q R under k here =
      le_trans
      (better_or_else (ask k Q) (ask' (e k) R) (s.deadline k) (along k here Q R under) (λ x found. (regular.within k Q x found).1))
      (le_of_eq (ap (or_else (ask' (e k) R)) (lies.deadline k here)))

  -- The final bounds so placed are supported: where a row lies it is its turn, and elsewhere 0 is under any turn.
  placed_supported : Supported t ask' (placed s t e (rounds s ask))
  placed_supported j inside =
      let Q : List ℕ = rounds s ask in
      let R : List ℕ = placed s t e Q in
      rw (listed_at (spread e s.rows Q) t.rows j inside)
      (spread_each e s.rows Q (λ j x. x ≤ turn t ask' j R)
      (λ k here.
      le_trans (le_of_eq ((rounds_largest s ask regular).consistent.by_turn k here))
      (turn_along Q R (λ i h. le_of_eq (sym (placed_at Q i h))) k here))
      (λ j. omega arith) j)

  -- Bounds no larger along e take with them the answers, the marks and acceptance.
  under_eased : (Q R : List ℕ) → UnderAlong e s.rows Q R → Eased s t e ask ask' Q R
  unfolding marked accepted
  under_eased Q R under =
      let keeps : (k : ℕ) → k < s.rows → marked ask' R (e k) ≡ true → marked ask Q k ≡ true =
      λ k here there. better_exists (ask k Q) (ask' (e k) R) (along k here Q R under) there in
      record {
        bounds = under;
        answers = λ k here. along k here Q R under;
        keeps_marks = keeps;
        keeps_accepted = λ all.
            each_every (marked ask Q) s.rows
            (λ k here. keeps k here (every_each (marked ask' R) t.rows all (e k) (lies.places.inside k here)));
      }

  -- Where the rounds end, each row has it easier than where it lies.
  pub eased : Eased s t e ask ask' (rounds s ask) (rounds t ask')
  eased =
      under_eased (rounds s ask) (rounds t ask')
      (λ k here.
      le_trans (le_of_eq (sym (placed_at (rounds s ask) k here)))
      (supported_below t ask' regular' (placed s t e (rounds s ask)) placed_supported (e k) (lies.places.inside k here)))

  -- And so where the at-once engine ends, since it ends at the same bounds.
  pub eased_once : Eased s t e ask ask' (at_once s ask) (at_once t ask')
  eased_once = rw (← (same_end s ask regular).same_bounds, ← (same_end t ask' regular').same_bounds) eased
