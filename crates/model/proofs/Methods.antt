-- Both published tests are regular, so demand 3 holds of each; and RTA is better than BCL row by row, so RTA dominates BCL.
use mathlib.Core.Path.{sym}
use mathlib.Core.List.{List}
use mathlib.Core.Option.{some}
use Prim.Native.Nat.{ℕ, ◌≤◌}
use native.Mathlib.Nat.{le_refl, le_trans, le_of_eq}
use Rattle.laws.specs.Choice.{Better}
use Rattle.laws.specs.Fill.{Below}
use Rattle.laws.proofs.Choice.{better_where}
use Rattle.model.specs.Sheet.{Sheet}
use Rattle.model.specs.Answer.{Method, BCL, RTA, bcl_answer, rta_answer, answer, Answers}
use Rattle.model.specs.Refine.{rounds, at_once, SameEnd, Dominates}
use Rattle.model.specs.Alike.{LiesIn, Eased}
use Rattle.model.proofs.Interference.{bcl_value_mono, rta_right_mono, rta_within_bcl}
use Rattle.model.proofs.Answer.{answer_means, answer-within, rta_below}
use Rattle.model.proofs.Refine.{Regular}
use Rattle.model.proofs.Engines.{same_end, dominates}
use Rattle.model.proofs.Along.{answer_eases, answer-along, eased, eased_once}

-- Smaller bounds give a better answer, by either method.
pub answer_mono : (method : Method) (s : Sheet) (m k : ℕ) (Q R : List ℕ) → Below s.rows Q R
    → Better (answer method s m k Q) (answer method s m k R)
answer_mono method s m k Q R below =
    answer_eases s m k Q s m k R
    (record {
      cost = le_refl (s.cost k);
      deadline = le_refl (s.deadline k);
      by_bcl = bcl_value_mono s k Q R below m;
      by_rta = λ x. rta_right_mono s k Q R below m x x (le_refl x);
    })
    method

-- Both methods are regular.
pub answer_regular : (method : Method) (s : Sheet) (m : ℕ) → Regular s (answer method s m)
answer_regular method s m =
    record { within = λ k R. answer-within s m k R method; keeps_order = answer_mono method s m }

-- Demand 3, of each method.
pub engines_agree : (method : Method) (s : Sheet) (m : ℕ) → SameEnd s (answer method s m)
engines_agree method s m = same_end s (answer method s m) (answer_regular method s m)

-- A sheet that lies in another ends no higher in any row, by either method and either engine.
pub method_eased : (method : Method) (m : ℕ) (s t : Sheet) (e : ℕ → ℕ) → LiesIn s t e
    → Eased s t e (answer method s m) (answer method t m) (rounds s (answer method s m)) (rounds t (answer method t m))
method_eased method m s t e lies =
    eased s t e lies (answer method s m) (answer method t m) (answer_regular method s m) (answer_regular method t m)
    (answer-along method m s t e lies)

pub method_eased_once : (method : Method) (m : ℕ) (s t : Sheet) (e : ℕ → ℕ) → LiesIn s t e
    → Eased s t e (answer method s m) (answer method t m) (at_once s (answer method s m)) (at_once t (answer method t m))
method_eased_once method m s t e lies =
    eased_once s t e lies (answer method s m) (answer method t m) (answer_regular method s m) (answer_regular method t m)
    (answer-along method m s t e lies)

-- At equal bounds RTA's answer is better than BCL's.
pub rta_beats_bcl : (s : Sheet) (m k : ℕ) (R : List ℕ) → Better (answer RTA s m k R) (answer BCL s m k R)
unfolding answer
rta_beats_bcl s m k R =
    better_where (rta_answer s m k R) (bcl_answer s m k R)
    (λ x found.
    let formula : Answers BCL s m k R (some x) = rw found at (answer_means s m k R BCL) in
    let inside : (s.cost k ≤ x) × (x ≤ s.deadline k) = answer-within s m k R BCL x found in
    rta_below s m k R x inside.0 inside.1 (le_trans (rta_within_bcl s m k R x inside.1) (le_of_eq (sym formula.value))))

-- Demand 3: RTA dominates BCL.
pub rta_dominates : (s : Sheet) (m : ℕ) → Dominates s (answer RTA s m) (answer BCL s m)
rta_dominates s m =
    dominates s (answer RTA s m) (answer BCL s m) (answer_regular RTA s m) (answer_regular BCL s m) (rta_beats_bcl s m)
