-- The checks of the one-row question, taken apart: what number 0 says, and which refusal each test leads to. What is answered means what it
-- promises, and the promise fixes it.
use mathlib.Core.Path.{◌≡◌, refl, sym, ◌∙◌, ap}
use mathlib.Core.Bool.{Bool, true, false}
use mathlib.Core.List.{List, [], ◌∷◌}
use mathlib.Core.Option.{Option, none, some}
use mathlib.Core.Logic.{◌↔◌}
use Prim.Native.Nat.{ℕ, ◌<◌}
use native.Mathlib.Omega.{arith}
use borrow.Author.Tests.{ltb-true, leb-true, eqb-true, lt-ltb, eq-eqb, le-leb}
use lib.Dec.{leb, ltb, eqb}
use lib.ListN.{length, get_or}
use Rattle.laws.specs.Choice.{pick}
use Rattle.laws.specs.Bits.{every}
use Rattle.laws.proofs.Choice.{not-refused, is_refused, and_left, and_right, one_answer, and_both, pick_yes, number_kept}
use Rattle.laws.proofs.Promised.{Parts, kept, fixed}
use Rattle.laws.proofs.Bits.{every_each, each_every}
use Rattle.model.specs.Sheet.{Sheet, Allowed}
use Rattle.model.specs.Answer.{method_of, answer, Answers}
use Rattle.model.proofs.Sheet.{allowed_processors, processors_allowed_lem}
use Rattle.model.proofs.Answer.{answer_means, answer-fixed}
use Rattle.rows.specs.Words.{Found}
use Rattle.std.specs.declared.option.Option.TheVariants.{Some, None}
use Rattle.refusals.specs.Refusals.{Refusal}
use Rattle.rows.specs.Words.{found_of}
use Rattle.rows.specs.Checks.{processors_refusal, method_refusal, first_held, laid_refusal}
use Rattle.refusals.specs.Refusals.{refused, not_refused}
use Rattle.rows.specs.Inner.{NoneHold}
use Rattle.rows.proofs.Fold.{none_held, held_none}
use Rattle.rows.proofs.Checks as checks
use Rattle.refinement.specs.Question.{OneRow}
use Rattle.refinement.specs.Question.{bound_allowed, question_allowed, question_refusal, one_row_refusal_of, one_row_of, answer_of, OneRowPromise, Ready, Posed, Askable}

-- Rows accepted with own checks that begin with processors and method were posed as every question is, and the checks behind those passed.
pub posed : (broken : Bool) (s : Sheet) (m method : ℕ) (later : List ℕ)
    → (laid_refusal broken s (first_held (processors_refusal m ∷ method_refusal method ∷ later))).number ≡ 0 → Posed broken s m method × NoneHold later
posed broken s m method later zero =
    let facts = checks.accepted broken s _ zero in
    let own = none_held (processors_refusal m ∷ method_refusal method ∷ later) facts.none_held in
    let allowed = allowed_processors m (checks.processors_allowed_lem m own.0) in (
      record {
        laid = facts.laid;
        sizes = facts.sizes;
        some_processor = allowed.0;
        few = allowed.1;
        by_method = checks.method_within method own.1.0;
      },
      own.1.1,
    )

-- And what is so posed is not refused by those checks.
pub posed_passes : (broken : Bool) (s : Sheet) (m method : ℕ) (later : List ℕ) → Posed broken s m method → NoneHold later
    → laid_refusal broken s (first_held (processors_refusal m ∷ method_refusal method ∷ later)) ≡ not_refused
posed_passes broken s m method later facts passed =
    checks.accepted-passes broken s _
    (record {
      laid = facts.laid;
      sizes = facts.sizes;
      none_held = held_none (processors_refusal m ∷ method_refusal method ∷ later)
          (checks.allowed_processors m (processors_allowed_lem m facts.some_processor facts.few), (checks.within_method method facts.by_method, passed));
    })

-- A question that is allowed, on allowed sizes: the bounds are ready and the row is there.
pub question_ready : (s : Sheet) (R : List ℕ) (row : ℕ) → Allowed s → question_allowed s R row ≡ true → Ready s R × (row < s.rows)
unfolding question_allowed bound_allowed
question_ready s R row sizes allowed =
    let there : row < s.rows = ltb-true row s.rows (and_left (ltb row s.rows) _ allowed) in
    let fits = and_right (ltb row s.rows) _ allowed in
    let one_each : length R ≡ s.rows = eqb-true (length R) s.rows (and_left (eqb (length R) s.rows) _ fits) in
    let all : every (bound_allowed s R) s.rows ≡ true = and_right (eqb (length R) s.rows) _ fits in (
      record {
        rows = sizes;
        one_each = one_each;
        in_range = λ i h.
            let bound = every_each (bound_allowed s R) s.rows all i h in (
              leb-true (s.cost i) (get_or R i 0) (and_left (leb (s.cost i) (get_or R i 0)) _ bound),
              leb-true (get_or R i 0) (s.deadline i) (and_right (leb (s.cost i) (get_or R i 0)) _ bound),
            );
      },
      there,
    )

-- And ready bounds with a row that is there are allowed.
pub ready_question : (s : Sheet) (R : List ℕ) (row : ℕ) → Ready s R → row < s.rows → question_allowed s R row ≡ true
unfolding question_allowed bound_allowed
ready_question s R row ready inside =
    and_both _ _ (lt-ltb row s.rows inside)
    (and_both _ _ (eq-eqb (length R) s.rows ready.one_each)
    (each_every (bound_allowed s R) s.rows
    (λ i h.
    and_both _ _ (le-leb (s.cost i) (get_or R i 0) (ready.in_range i h).0) (le-leb (get_or R i 0) (s.deadline i) (ready.in_range i h).1))))

-- An answer as the code says it and as document 01 says it are the same thing.
answer_found : (o : Option ℕ) → answer_of (found_of o) ≡ o
unfolding answer_of found_of
answer_found none = refl
answer_found (some x) = refl

found_answer : (found : Found) → found_of (answer_of found) ≡ found
unfolding answer_of found_of
found_answer (Some x) = refl
found_answer None = refl

-- A result is its number, its place and its answer.
abbrev made : ℕ → ℕ → Found → OneRow
made number place found = record { refusal = number; place = place; answer = found }

parts : Parts {A = OneRow} (λ r. r.refusal) (λ r. r.place) (λ r. r.answer) made
parts = record { number_of = λ n p f. refl; place_of = λ n p f. refl; said_of = λ n p f. refl; whole = λ r. refl }

module _ (broken : Bool) (s : Sheet) (m method : ℕ) (R : List ℕ) (row : ℕ) where
  -- The checks before 9.
  abbrev first : Refusal
  first = laid_refusal broken s (first_held (processors_refusal m ∷ method_refusal method ∷ []))

  -- A refusal there is the whole refusal.
  pub refused_first : (given : Refusal) → given ≡ first → (given.number ≡ 0 → ⊥) → given ≡ one_row_refusal_of broken s m method R row
  unfolding one_row_refusal_of
  refused_first given is_first refused_it_is =
      is_first ∙ sym (is_refused _ _ _ (λ zero. refused_it_is (ap (λ (r : Refusal). r.number) is_first ∙ zero)))

  -- Without one there, check 9 decides.
  pub passed_first : (given : Refusal) → given ≡ first → given.number ≡ 0 → (allowed : Bool) → question_allowed s R row ≡ allowed
      → pick allowed not_refused (refused 9 0) ≡ one_row_refusal_of broken s m method R row
  unfolding one_row_refusal_of question_refusal
  passed_first given is_first zero allowed is_allowed =
      rw (← is_allowed) (sym (not-refused _ _ _ (sym (ap (λ (r : Refusal). r.number) is_first) ∙ zero)))

  -- Number 0 gives every fact that the work needs.
  pub asked : (one_row_refusal_of broken s m method R row).number ≡ 0 → Askable broken s m method R row
  unfolding one_row_refusal_of question_refusal
  asked zero =
      let passed = checks.both_passed first (question_refusal s R row) zero in
      let facts = posed broken s m method [] passed.0 in
      let ready = question_ready s R row facts.0.sizes (is_allowed (question_allowed s R row) passed.1) in
      record { posed = facts.0; ready = ready.0; there = ready.1 }
    where
      is_allowed : (b : Bool) → (pick b not_refused (refused 9 0)).number ≡ 0 → b ≡ true
      is_allowed true zero = refl
      is_allowed false zero = absurd (omega arith)

  -- And where they hold there is no refusal.
  pub askable : Askable broken s m method R row → one_row_refusal_of broken s m method R row ≡ not_refused
  unfolding one_row_refusal_of question_refusal
  askable facts =
      not-refused _ _ _ (ap (λ (r : Refusal). r.number) (posed_passes broken s m method [] facts.posed tt))
      ∙ pick_yes _ _ _ (ready_question s R row facts.ready facts.there)

module _ (refusal : Refusal) (s : Sheet) (m method : ℕ) (R : List ℕ) (row : ℕ) where
  -- The answer carries the refusal's number.
  pub one_row_number : (one_row_of refusal s m method R row).refusal ≡ refusal.number
  unfolding one_row_of
  one_row_number = number_kept {A = OneRow} (λ r. r.refusal) refusal.number _ _ refl refl

  -- What is answered where nothing is refused, and where something is.
  pub one_row_answered : refusal.number ≡ 0
      → one_row_of refusal s m method R row ≡ record { refusal = 0; place = 0; answer = found_of (answer (method_of method) s m row R) }
  unfolding one_row_of
  one_row_answered zero = not-refused _ _ _ zero

  pub one_row_refused : (given : Refusal) → given ≡ refusal → (given.number ≡ 0 → ⊥)
      → one_row_of refusal s m method R row ≡ record { refusal = given.number; place = given.place; answer = None }
  unfolding one_row_of
  one_row_refused given is_given refused_it_is = rw (← is_given) (is_refused _ _ _ refused_it_is)

  -- Two results that a contract allows are equal.
  pub one_row_unique : (first second : OneRow) → first ≡ one_row_of refusal s m method R row → second ≡ one_row_of refusal s m method R row
      → first ≡ second
  one_row_unique _ _ = one_answer

module _ (broken : Bool) (s : Sheet) (m method : ℕ) (R : List ℕ) (row : ℕ) where
  -- The table's refusal, and what is answered to it.
  abbrev table : Refusal
  table = one_row_refusal_of broken s m method R row

  abbrev said : OneRow
  said = one_row_of table s m method R row

  -- It is not refused exactly where everything asked for holds.
  pub one_row_not-refused : (said.refusal ≡ 0) ↔ Askable broken s m method R row
  one_row_not-refused = (
    λ zero. asked broken s m method R row (sym (one_row_number table s m method R row) ∙ zero),
    λ facts. one_row_number table s m method R row ∙ ap (λ (r : Refusal). r.number) (askable broken s m method R row facts),
  )

  -- With number 0 the place is 0 too, and what is meant is the one-row answer.
  no_place : table.number ≡ 0 → table.place ≡ 0
  no_place zero = ap (λ (r : Refusal). r.place) (askable broken s m method R row (asked broken s m method R row zero))

  abbrev Meant : Found → Type 0
  Meant found = Answers (method_of method) s m row R (answer_of found)

  -- The answer keeps the promise.
  pub one_row_keeps : OneRowPromise table s m method R row said
  unfolding one_row_of
  one_row_keeps =
      let carries =
      kept _ _ _ made parts _ _ None (found_of (answer (method_of method) s m row R)) Meant no_place
      (λ zero. rw answer_found (answer_means s m row R (method_of method))) in
      record { number = carries.numbered; place = carries.placed; answered = carries.means; nothing = carries.nothing }

  -- And only it does.
  pub one_row_fixed : (r : OneRow) → OneRowPromise table s m method R row r → r ≡ said
  unfolding one_row_of
  one_row_fixed r promise =
      fixed _ _ _ made parts _ _ None (found_of (answer (method_of method) s m row R)) Meant no_place
      (λ zero found meant.
      sym (found_answer found) ∙ ap found_of (sym (answer-fixed s m row R (method_of method) (answer_of found) meant))) r
      (record { numbered = promise.number; placed = promise.place; means = promise.answered; nothing = promise.nothing })
