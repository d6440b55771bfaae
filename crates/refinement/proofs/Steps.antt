-- Passes on s: a row's answer gives its turn and its mark; a pass that changes a bound lowers their sum, and a sweep that changes none met
-- the same bounds at every row. Bounds on the way stay from cost to deadline.
use mathlib.Core.Path.{◌≡◌, refl, sym, ◌∙◌, ap}
use mathlib.Core.Bool.{Bool}
use mathlib.Core.List.{List}
use mathlib.Core.Option.{Option, none, some}
use Prim.Native.Nat.{ℕ, zero, suc, ◌≤◌}
use native.Mathlib.Nat.{le_trans, le_of_lt, le_of_suc-le}
use native.Mathlib.Omega.{arith}
use lib.ListN.{get_or, set}
use lib.Seq.{set-get_or}
use Rattle.std.specs.declared.option.Option.TheVariants.{Some, None}
use Rattle.std.specs.Option.{unwrap_or}
use Rattle.laws.specs.Choice.{or_else, is_some}
use Rattle.laws.specs.Fill.{Below}
use Rattle.laws.specs.Bits.{bits}
use Rattle.laws.proofs.Sum.{total_mono}
use Rattle.laws.proofs.Bits.{bits-same}
use Rattle.model.specs.Sheet.{Sheet}
use Rattle.model.specs.Answer.{method_of}
use Rattle.model.specs.Refine.{Ask, turn, sweep, marked, marks, Consistent}
use Rattle.model.specs.Inner.{Held}
use Rattle.model.proofs.Refine.{Regular, Pass, turn_from_cost, sweep_held, sweep_lowers, sweep_pass, sum_falls}
use Rattle.model.proofs.Methods.{answer_regular}
use Rattle.model.proofs.Sheet.{row_sized}
use Rattle.rows.specs.Words.{Found, found_of}
use Rattle.refinement.specs.Refinement.{ask_of}
use Rattle.refinement.specs.Question.{Ready}
use Rattle.refinement.specs.declared.asked.Asked.{Asked}
use Rattle.refinement.specs.Asked.{sheet, ask}
use Rattle.refinement.specs.Inner.{is_found, Running, bounds_sum, AfterPass}

-- The bound of an answer, and whether there is one, as the code says it and as the definitions say it.
unwrap_or_else : (o : Option ℕ) (deadline : ℕ) → unwrap_or (found_of o) deadline ≡ or_else o deadline
unfolding found_of
unwrap_or_else none deadline = refl
unwrap_or_else (some x) deadline = refl

found_is_some : (o : Option ℕ) → is_found (found_of o) ≡ is_some o
unfolding is_found found_of
found_is_some none = refl
found_is_some (some x) = refl

-- A row's answer gives its turn.
pub turn_found : (s : Sheet) (ask : Ask) (k : ℕ) (R : List ℕ) (found : Found) (deadline bound : ℕ) → found ≡ found_of (ask k R)
    → deadline ≡ s.deadline k → bound ≡ unwrap_or found deadline → bound ≡ turn s ask k R
unfolding turn
turn_found s ask k R found deadline bound was_found is_deadline is_bound =
    is_bound ∙ rw (was_found, is_deadline) (unwrap_or_else (ask k R) (s.deadline k))

-- A row's answer gives its mark.
pub mark_found : (ask : Ask) (k : ℕ) (R : List ℕ) (found : Found) → found ≡ found_of (ask k R) → is_found found ≡ marked ask R k
unfolding marked
mark_found ask k R found was_found = rw was_found (found_is_some (ask k R))

-- The answer asked for by s, processors and method number is regular.
pub ask_regular : (s : Sheet) (processors method : ℕ) → Regular s (ask_of s processors method)
unfolding ask_of
ask_regular s processors method = answer_regular (method_of method) s processors

-- So is the answer that rows, processors and method ask for together.
pub asked_regular : (asked : Asked) → Regular (sheet asked) (ask asked)
asked_regular asked = ask_regular _ _ _

-- Bounds that hold what bounds on the way hold, below bounds that are ready, are ready.
pub ready_lower : (s : Sheet) (ask : Ask) → Regular s ask → (before R : List ℕ) → Ready s before
    → Held s ask R → Below s.rows R before → Ready s R
ready_lower s ask regular before R ready held below =
    record {
      rows = ready.rows;
      one_each = held.one_each;
      in_range = λ k h.
          let sized = row_sized s ready.rows k h in (
            le_trans (omega (arith, sized.by_deadline, turn_from_cost s ask regular k R)) (held.falls k h),
            le_trans (below k h) (ready.in_range k h).1,
          );
    }

-- A sweep's bounds before a row are ready too.
pub sweep_ready : (s : Sheet) (ask : Ask) → Regular s ask → (R : List ℕ) → Ready s R → Held s ask R → (row : ℕ) → row ≤ s.rows
    → Ready s (sweep s ask row R)
sweep_ready s ask regular R ready held row upto =
    ready_lower s ask regular R (sweep s ask row R) ready (sweep_held s ask regular R held row upto) (sweep_lowers s ask regular R held row upto)

-- The mark of a row as a sweep meets it: under the bounds that the turns before it leave.
unfoldable pub met_mark : Sheet → Ask → List ℕ → ℕ → Bool
met_mark s ask R row = marked ask (sweep s ask row R) row

-- A sweep over the first rows of a consistent set leaves it as it is.
sweep_consistent : (s : Sheet) (ask : Ask) (R : List ℕ) → Consistent s ask R → (row : ℕ) → row ≤ s.rows → sweep s ask row R ≡ R
unfolding sweep
sweep_consistent s ask R consistent zero upto = refl
sweep_consistent s ask R consistent (suc row) upto =
    ap (λ (l : List ℕ). set l row (turn s ask row l)) (sweep_consistent s ask R consistent row (le_of_suc-le upto))
    ∙ ap (set R row) (sym (consistent.by_turn row upto))
    ∙ set-get_or R row 0

-- So a sweep that changes no bound has met the marks under them.
pub met_marks : (s : Sheet) (ask : Ask) → Regular s ask → (R : List ℕ) → Held s ask R → sweep s ask s.rows R ≡ R
    → bits (met_mark s ask R) s.rows ≡ marks s ask R
unfolding marks met_mark
met_marks s ask regular R held still =
    let consistent : Consistent s ask R = (sweep_pass s ask regular).settles R held still in
    bits-same (met_mark s ask R) (marked ask R) s.rows
    (λ row inside. ap (λ (l : List ℕ). marked ask l row) (sweep_consistent s ask R consistent row (le_of_lt inside)))

-- A pass that changes a bound tells no marks.
pub pass_moved : (s : Sheet) (ask : Ask) → Regular s ask → (pass : List ℕ → List ℕ) → Pass s ask pass → (R R' : List ℕ) → Held s ask R
    → R' ≡ pass R → (R' ≡ R → ⊥) → AfterPass s ask pass R R' None
unfolding bounds_sum
pass_moved s ask regular pass is_pass R R' held passed moved =
    record { exact = passed; outcome = rw passed (sum_falls s ask regular pass is_pass R held (λ same. moved (passed ∙ same))) }

-- A pass that changes none tells the marks under the bounds.
pub pass_still : (s : Sheet) (ask : Ask) (pass : List ℕ → List ℕ) (R R' : List ℕ) (seen : ℕ) → R' ≡ pass R → R' ≡ R → seen ≡ marks s ask R
    → AfterPass s ask pass R R' (Some seen)
pass_still s ask pass R R' seen passed same is_seen = record { exact = passed; outcome = (same, is_seen) }

-- Bounds below bounds on the way, that hold what those hold, are on the way.
pub running_lower : (s : Sheet) (R R' : List ℕ) (count m method : ℕ) → Running s R count m method → Held s (ask_of s m method) R' → Below s.rows R' R
    → Running s R' count m method
running_lower s R R' count m method running held below =
    record {
      ready = ready_lower s (ask_of s m method) (ask_regular s m method) R R' running.ready held below;
      counted = running.counted;
      some_processor = running.some_processor;
      few = running.few;
      held = held;
    }

-- So is what a pass leaves.
pub pass_on : (s : Sheet) (R R' : List ℕ) (count m method : ℕ) (pass : List ℕ → List ℕ) → Pass s (ask_of s m method) pass
    → Running s R count m method → R' ≡ pass R → Running s R' count m method
pass_on s R R' count m method pass is_pass running passed =
    running_lower s R R' count m method running (rw passed (is_pass.keeps R running.held)) (rw passed (is_pass.lowers R running.held))

-- Lower bounds have no larger sum.
pub sum_lower : (s : Sheet) (R R' : List ℕ) → Below s.rows R' R → bounds_sum s R' ≤ bounds_sum s R
unfolding bounds_sum
sum_lower s R R' below =
    total_mono (λ k. get_or R' k 0) (λ k. get_or R k 0) s.rows (λ i h. below i h)

-- A pass that told marks has reached the engine's end.
pub reached : (s : Sheet) (ask : Ask) (pass : List ℕ → List ℕ) (R R' final : List ℕ) (seen : ℕ) → AfterPass s ask pass R R' (Some seen)
    → (pass R ≡ R → R ≡ final) → (seen ≡ marks s ask final) × (R' ≡ final)
reached s ask pass R R' final seen after settled =
    let still = after.outcome in
    let end : R ≡ final = settled (sym after.exact ∙ still.0) in
    (still.1 ∙ ap (marks s ask) end, still.0 ∙ end)
