-- The entries of both engines, once over any engine: what number 0 says, what is answered and written refused or not. Demand 3 is then read
-- off the answers, from what is proved of the definitions.
use mathlib.Core.Path.{◌≡◌, sym, ◌∙◌, ap, refl}
use mathlib.Core.Bool.{Bool}
use mathlib.Core.List.{List, [], ◌∷◌, ◌++◌}
use mathlib.Core.Logic.{◌↔◌}
use Prim.Native.Nat.{ℕ, ◌≤◌}
use lib.ListN.{length, drop}
use Rattle.laws.proofs.Choice.{not-refused, is_refused, one_answer, number_kept, zero_where_refused}
use Rattle.laws.proofs.Fill.{listed-length, listed_at, front_left, front_put}
use Rattle.model.specs.Sheet.{Sheet, Allowed}
use Rattle.model.specs.Refine.{deadlines, rounds, at_once}
use Rattle.model.proofs.Refine.{deadlines_held}
use Rattle.model.proofs.Engines.{rounds_largest, at_once_largest}
use Rattle.model.proofs.Sheet.{row_sized}
use Rattle.refusals.specs.Refusals.{Refusal}
use Rattle.rows.specs.Checks.{processors_refusal, method_refusal, room_refusal, first_of, laid_refusal}
use Rattle.refusals.specs.Refusals.{not_refused}
use Rattle.rows.proofs.Fold.{held_last, held_more}
use Rattle.rows.proofs.Checks.{room_enough, enough_room}
use Rattle.refinement.specs.declared.Refined.{Refined}
use Rattle.refinement.specs.Refinement.{ask_of, refine_refusal_of, Engine, final_bounds, final_marks, handed, refined_of, refined_space_of, Refinable}
use Rattle.refinement.specs.Inner.{Running}
use Rattle.refinement.specs.Question.{Ready}
use Rattle.refinement.proofs.Question.{posed, posed_passes}
use Rattle.refinement.proofs.Steps.{ask_regular}

-- The deadlines are ready bounds.
pub deadlines_ready : (s : Sheet) → Allowed s → Ready s (deadlines s)
unfolding deadlines
deadlines_ready s sizes =
    record {
      rows = sizes;
      one_each = listed-length s.deadline s.rows;
      in_range = λ i h.
          let sized = row_sized s sizes i h in
          rw (listed_at s.deadline s.rows i h) (sized.by_deadline, native.Mathlib.Nat.le_refl (s.deadline i));
    }

-- So every engine begins on the way.
pub running_first : (s : Sheet) (R : List ℕ) (count m method : ℕ) → Allowed s → count ≡ s.rows → 1 ≤ m → m ≤ 64 → R ≡ deadlines s
    → Running s R count m method
running_first s R count m method sizes counted some_processor few begins =
    record {
      ready = rw begins (deadlines_ready s sizes);
      counted = counted;
      some_processor = some_processor;
      few = few;
      held = rw begins (deadlines_held s (ask_of s m method) (ask_regular s m method));
    }

module _ (broken : Bool) (s : Sheet) (m method room need : ℕ) where
  -- Number 0 gives every fact that the work needs.
  pub refining : (refine_refusal_of broken s m method room need).number ≡ 0 → Refinable broken s m method room need
  unfolding refine_refusal_of
  refining zero =
      let facts = posed broken s m method (room_refusal room need ∷ []) zero in
      record { posed = facts.0; enough = room_enough room need facts.1.0 }

  -- And where they hold there is no refusal.
  pub refinable : Refinable broken s m method room need → refine_refusal_of broken s m method room need ≡ not_refused
  unfolding refine_refusal_of
  refinable facts = posed_passes broken s m method (room_refusal room need ∷ []) facts.posed (enough_room room need facts.enough, tt)

  -- The refusal, from what each call of the code gave: the checks are folded from the last one up.
  pub refusal_made : {five given seven rest four whole : ℕ} {r : Refusal} → five ≡ method_refusal method → given ≡ need
      → seven ≡ room_refusal room given → rest ≡ first_of five seven → four ≡ processors_refusal m → whole ≡ first_of four rest
      → r ≡ laid_refusal broken s whole → r ≡ refine_refusal_of broken s m method room need
  unfolding refine_refusal_of
  refusal_made {five} {given} {seven} {rest} {four} {whole} {r} is_five is_need is_seven is_rest is_four is_whole is_refusal =
      let last = held_last (room_refusal room need) (is_seven ∙ ap (room_refusal room) is_need) in
      let later = held_more (method_refusal method) (room_refusal room need ∷ []) is_five last is_rest in
      is_refusal
      ∙ ap (laid_refusal broken s) (held_more (processors_refusal m) (method_refusal method ∷ room_refusal room need ∷ []) is_four later is_whole)

-- Today the final bounds themselves are handed out.
pub handed_whole : (engine : Engine) (s : Sheet) (m method : ℕ) → final_bounds engine s m method ≡ handed engine s m method
unfolding handed
handed_whole engine s m method = refl

-- Either engine gives one bound a row.
pub rounds-length : (s : Sheet) (m method : ℕ) → length (final_bounds rounds s m method) ≡ s.rows
unfolding final_bounds
rounds-length s m method = (rounds_largest s (ask_of s m method) (ask_regular s m method)).consistent.one_each

pub at_once_length : (s : Sheet) (m method : ℕ) → length (final_bounds at_once s m method) ≡ s.rows
unfolding final_bounds
at_once_length s m method = (at_once_largest s (ask_of s m method) (ask_regular s m method)).consistent.one_each

module _ (engine : Engine) (refusal : Refusal) (s : Sheet) (m method : ℕ) (out : List ℕ) where
  -- Refused: the refusal is answered and nothing is written.
  pub refine_refused : (given : Refusal) → given ≡ refusal → (given.number ≡ 0 → ⊥)
      → (◌≡◌ {A = Refined} (record { refusal = given.number; place = given.place; marks = 0 }) (refined_of engine refusal s m method))
      × (out ≡ refined_space_of engine refusal s m method out)
  unfolding refined_of refined_space_of
  refine_refused given is_given refused_it_is = rw (← is_given) (sym (is_refused _ _ _ refused_it_is), front_left _ _ out refused_it_is)

  -- Not refused: the marks are answered, and what is handed out is written in front of what stood behind it.
  pub refine_answered : refusal.number ≡ 0 → (seen count : ℕ) (new : List ℕ) → seen ≡ final_marks engine s m method
      → new ≡ handed engine s m method → length new ≡ count
      → (◌≡◌ {A = Refined} (record { refusal = 0; place = 0; marks = seen }) (refined_of engine refusal s m method))
      × (new ++ drop count out ≡ refined_space_of engine refusal s m method out)
  unfolding refined_of refined_space_of
  refine_answered zero seen count new is_seen is_new sized = (
    ap (λ (n : ℕ). let r : Refined = record { refusal = 0; place = 0; marks = n } in r) is_seen ∙ sym (not-refused _ _ _ zero),
    rw (← sized, is_new) (front_put _ _ out zero),
  )

  -- The answer carries the refusal's number.
  pub refined-number : (refined_of engine refusal s m method).refusal ≡ refusal.number
  unfolding refined_of
  refined-number = number_kept {A = Refined} (λ r. r.refusal) refusal.number _ _ refl refl

  -- Refused, the marks are 0.
  pub refined-zero : ((refined_of engine refusal s m method).refusal ≡ 0 → ⊥) → (refined_of engine refusal s m method).marks ≡ 0
  unfolding refined_of
  refined-zero = zero_where_refused {A = Refined} (λ r. r.refusal) (λ r. r.marks) refusal.number _ _ refl refl

  -- Two results that a contract allows are equal, and so are two written lists.
  pub refined_unique : (first second : Refined) → first ≡ refined_of engine refusal s m method → second ≡ refined_of engine refusal s m method
      → first ≡ second
  refined_unique first second = one_answer

  pub refined_words_unique : (first second : List ℕ) → first ≡ refined_space_of engine refusal s m method out
      → second ≡ refined_space_of engine refusal s m method out → first ≡ second
  refined_words_unique first second = one_answer

-- A refinement is not refused exactly where everything asked for holds.
pub refined-not-refused : (engine : Engine) (broken : Bool) (s : Sheet) (m method room need : ℕ)
    → ((refined_of engine (refine_refusal_of broken s m method room need) s m method).refusal ≡ 0) ↔ Refinable broken s m method room need
refined-not-refused engine broken s m method room need =
    let refusal = refine_refusal_of broken s m method room need in
    let number = refined-number engine refusal s m method [] in (
      λ zero. refining broken s m method room need (sym number ∙ zero),
      λ facts. number ∙ ap (λ (f : Refusal). f.number) (refinable broken s m method room need facts),
    )
