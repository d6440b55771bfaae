-- Demand 3 of the entries' answers, from what is proved of the definitions: no engine is unfolded.
use mathlib.Core.Path.{◌≡◌, refl, sym, ◌∙◌, ap, ap₂}
use mathlib.Core.Bool.{Bool, true, false}
use mathlib.Core.List.{List, ◌++◌}
use mathlib.Core.Option.{Option, none, some}
use Prim.Native.Nat.{ℕ, ◌<◌, ◌≤◌}
use native.Mathlib.Omega.{arith}
use lib.ListN.{get_or, take, drop, get_or-append, take-append-drop}
use lib.Seq.{take_at, drop_at}
use lib.Dec.{eqb}
use Rattle.laws.specs.Bits.{bit, bit_at}
use Rattle.laws.specs.Choice.{pick, or_else, is_some}
use Rattle.laws.proofs.Bits.{bits_tell}
use Rattle.model.specs.Sheet.{Sheet, Allowed}
use Rattle.model.specs.Answer.{method_of}
use Rattle.model.specs.Refine.{rounds, at_once, marked, Largest, turn}
use Rattle.model.proofs.Engines.{marks_say, unmarked_deadline, largest_unique}
use Rattle.model.proofs.Methods.{engines_agree, rta_dominates}
use Rattle.model.proofs.Refine.{turn_from_cost, turn_by_deadline}
use Rattle.model.proofs.Sheet.{row_sized}
use Rattle.refusals.specs.Refusals.{Refusal}
use Rattle.rows.specs.Words.{Found}
use Rattle.std.specs.declared.option.Option.TheVariants.{Some, None}
use Rattle.rows.specs.Words.{found_of}
use Rattle.refinement.specs.declared.Refined.{Refined}
use Rattle.refinement.specs.Question.{OneRow}
use Rattle.refinement.specs.Refinement.{ask_of, refine_refusal_of, final_bounds, final_marks, handed, refined_of, refined_space_of, EntriesAgree, Settled, NoWorse, Engine, AskedAgain, EndsAlike}
use Rattle.refinement.specs.Question.{one_row_refusal_of, Ready, Posed}
use Rattle.refinement.proofs.Refinement.{rounds-length, handed_whole, refine_answered, refining, refined-number}
use Rattle.refinement.proofs.Question.{askable, one_row_answered}
use Rattle.refinement.proofs.Steps.{ask_regular}

-- Both engines give the same final bounds for any sheet.
same_final : (s : Sheet) (m method : ℕ) → final_bounds rounds s m method ≡ final_bounds at_once s m method
unfolding final_bounds ask_of
same_final s m method = (engines_agree (method_of method) s m).same_bounds

-- The two entries answer and write the same, refused or not.
pub entries_agree : (refusal : Refusal) (s : Sheet) (m method : ℕ) (out : List ℕ) → EntriesAgree refusal s m method out
unfolding refined_of refined_space_of final_marks handed
entries_agree refusal s m method out = record { same_answer = rw (same_final s m method); same_words = rw (same_final s m method) }

-- The final bounds are the largest consistent set.
final_largest : (s : Sheet) (m method : ℕ) → Largest s (ask_of s m method) (final_bounds rounds s m method)
unfolding final_bounds ask_of
final_largest s m method = (engines_agree (method_of method) s m).largest

-- Every final bound lies from its row's cost to its deadline.
final_ready : (s : Sheet) (m method : ℕ) → Allowed s → Ready s (final_bounds rounds s m method)
final_ready s m method sizes =
    let ask = ask_of s m method in
    let consistent = (final_largest s m method).consistent in
    record {
      rows = sizes;
      one_each = rounds-length s m method;
      in_range = λ k h.
          let sized = row_sized s sizes k h in
          rw (consistent.by_turn k h) (
            omega (arith, sized.by_deadline, turn_from_cost s ask (ask_regular s m method) k (final_bounds rounds s m method)),
            turn_by_deadline s ask (ask_regular s m method) k (final_bounds rounds s m method),
          );
    }

-- The answer under the final bounds, by whether there is one.
told_again : (o : Option ℕ) (deadline bound : ℕ) → bound ≡ or_else o deadline → found_of o ≡ pick (eqb (bit (is_some o)) 1) (Some bound) None
unfolding found_of
told_again none deadline bound is_bound = refl
told_again (some x) deadline bound is_bound = ap Some (sym is_bound)

module _ (refusal : Refusal) (s : Sheet) (m method : ℕ) (out : List ℕ) (passed : refusal.number ≡ 0) where
  -- What is answered and written where nothing is refused.
  whole : ◌≡◌ {A = Refined} (record { refusal = 0; place = 0; marks = final_marks rounds s m method })
      (refined_of rounds refusal s m method)
  whole = (refine_answered rounds refusal s m method out passed _ s.rows _ refl (handed_whole rounds s m method) (rounds-length s m method)).0

  answered : ◌≡◌ {A = ℕ} (final_marks rounds s m method) (refined_of rounds refusal s m method).marks
  answered = ap (λ (r : Refined). r.marks) whole

  rounds-number : ◌≡◌ {A = ℕ} (refined_of rounds refusal s m method).refusal 0
  rounds-number = ap (λ (r : Refined). r.refusal) (sym whole)

  written : final_bounds rounds s m method ++ drop s.rows out ≡ refined_space_of rounds refusal s m method out
  written = (refine_answered rounds refusal s m method out passed _ s.rows _ refl (handed_whole rounds s m method) (rounds-length s m method)).1

  -- Word k is final bound k.
  word_at : (k : ℕ) → k < s.rows → get_or (refined_space_of rounds refusal s m method out) k 0 ≡ get_or (final_bounds rounds s m method) k 0
  word_at k h =
      ap (λ (l : List ℕ). get_or l k 0) (sym written)
      ∙ get_or-append (final_bounds rounds s m method) (drop s.rows out) 0 k (rw rounds-length h)

  front : take s.rows (refined_space_of rounds refusal s m method out) ≡ final_bounds rounds s m method
  front = ap (take s.rows) (sym written) ∙ take_at _ (drop s.rows out) s.rows (rounds-length s m method)

  -- Bit k is row k's mark.
  mark_at : (k : ℕ) → k < s.rows
      → bit_at (refined_of rounds refusal s m method).marks k ≡ bit (marked (ask_of s m method) (final_bounds rounds s m method) k)
  unfolding final_marks
  mark_at k h =
      ap (λ (n : ℕ). bit_at n k) (sym answered) ∙ (marks_say s (ask_of s m method) (final_bounds rounds s m method)).each k h

  -- Demand 3 of the rounds entry.
  rounds_settled : Settled s m method (refined_of rounds refusal s m method) (refined_space_of rounds refusal s m method out) out
  unfolding final_marks
  rounds_settled =
      let ask = ask_of s m method in
      let final = final_bounds rounds s m method in
      record {
        number = rounds-number;
        place = ap (λ (r : Refined). r.place) (sym whole);
        bounds = rw front (final_largest s m method);
        behind = ap (drop s.rows) (sym written) ∙ drop_at final (drop s.rows out) s.rows (rounds-length s m method);
        each_mark = λ k h. mark_at k h ∙ ap (λ (l : List ℕ). bit (marked ask l k)) (sym front);
        no_more = rw (← answered) (marks_say s ask final).within;
        unmarked = λ k h zero.
            word_at k h
            ∙ unmarked_deadline s ask final (final_largest s m method).consistent k h
            (not_set (marked ask final k) (sym (mark_at k h) ∙ zero));
      }
    where
      not_set : (b : Bool) → bit b ≡ 0 → b ≡ false
      not_set true zero = absurd (omega arith)
      not_set false zero = refl

  -- The one-row entry, asked with the words handed out.
  rounds_asked_again : (broken : Bool) → Posed broken s m method
      → AskedAgain broken s m method (refined_of rounds refusal s m method) (refined_space_of rounds refusal s m method out)
  unfolding ask_of marked turn
  rounds_asked_again broken posed k h =
      let ask = ask_of s m method in
      let final = final_bounds rounds s m method in
      let zero = ap (λ (r : Refusal). r.number)
      (askable broken s m method final k (record { posed = posed; ready = final_ready s m method posed.sizes; there = h })) in
      let bound : get_or (refined_space_of rounds refusal s m method out) k 0 ≡ turn s ask k final =
      word_at k h ∙ (final_largest s m method).consistent.by_turn k h in
      let told = told_again (ask k final) (s.deadline k) (get_or (refined_space_of rounds refusal s m method out) k 0) bound in
      rw (front, mark_at k h)
      (one_row_answered (one_row_refusal_of broken s m method final k) s m method final k zero
      ∙ ap (λ (f : Found). let r : OneRow = record { refusal = 0; place = 0; answer = f } in r) told)

-- What is settled fixes answer and words: the largest consistent set is one, and a number is told by its bits.
pub settled_fixed : (s : Sheet) (m method : ℕ) (first second : Refined) (after other out : List ℕ) → Settled s m method first after out
    → Settled s m method second other out → (first ≡ second) × (after ≡ other)
settled_fixed s m method first second after other out one two =
    let n = s.rows in
    let ask = ask_of s m method in
    let front = largest_unique s ask (take n after) (take n other) one.bounds two.bounds in
    let same : after ≡ other =
    sym (take-append-drop n after) ∙ ap₂ (λ (a b : List ℕ). a ++ b) front (one.behind ∙ sym two.behind) ∙ take-append-drop n other in
    let marks-same = bits_tell n first.marks second.marks one.no_more two.no_more
    (λ k h. one.each_mark k h ∙ ap (λ (l : List ℕ). bit (marked ask l k)) front ∙ sym (two.each_mark k h)) in
    (same-refined first second (one.number ∙ sym two.number) (one.place ∙ sym two.place) marks-same, same)
  where
    same-refined : (a b : Refined) → a.refusal ≡ b.refusal → a.place ≡ b.place → a.marks ≡ b.marks → a ≡ b
    same-refined a b number place marks = λ i. record { refusal = number i; place = place i; marks = marks i }

-- Both engines end alike, and an engine that does answers and writes what the rounds engine does.
pub rounds_alike : EndsAlike rounds
rounds_alike s m method = refl

pub at_once_alike : EndsAlike at_once
at_once_alike s m method = sym (same_final s m method)

module _ (engine : Engine) (alike : EndsAlike engine) (refusal : Refusal) (s : Sheet) (m method : ℕ) where
  alike_answer : refined_of engine refusal s m method ≡ refined_of rounds refusal s m method
  unfolding refined_of final_marks
  alike_answer = rw (alike s m method)

  alike_words : (out : List ℕ) → refined_space_of engine refusal s m method out ≡ refined_space_of rounds refusal s m method out
  unfolding refined_space_of handed
  alike_words out = rw (alike s m method)

  -- Demand 3 of either entry, where it is not refused.
  pub entry_settled : (out : List ℕ) → (refined_of engine refusal s m method).refusal ≡ 0
      → Settled s m method (refined_of engine refusal s m method) (refined_space_of engine refusal s m method out) out
  entry_settled out zero =
      rw (alike_answer, alike_words) (rounds_settled refusal s m method out (sym (refined-number engine refusal s m method out) ∙ zero))

-- And the one-row question asked with the words that it hands out.
pub entry_asked_again : (engine : Engine) → EndsAlike engine → (broken : Bool) (s : Sheet) (m method room need : ℕ) (out : List ℕ)
    → let refusal = refine_refusal_of broken s m method room need in
    (refined_of engine refusal s m method).refusal ≡ 0
    → AskedAgain broken s m method (refined_of engine refusal s m method) (refined_space_of engine refusal s m method out)
entry_asked_again engine alike broken s m method room need out zero =
    let refusal = refine_refusal_of broken s m method room need in
    let passed : refusal.number ≡ 0 = sym (refined-number engine refusal s m method out) ∙ zero in
    rw (alike_answer engine alike refusal s m method, alike_words engine alike refusal s m method out)
    (rounds_asked_again refusal s m method out passed broken (refining broken s m method room need passed).posed)

-- RTA against BCL, of the rounds entry's answers: no word above, and no mark lost.
rounds_no_worse : (first second : Refusal) (s : Sheet) (m : ℕ) (out other : List ℕ) → first.number ≡ 0 → second.number ≡ 0
    → NoWorse s (refined_of rounds first s m 1) (refined_of rounds second s m 0) (refined_space_of rounds first s m 1 out) (refined_space_of rounds second s m 0 other)
unfolding final_bounds ask_of method_of
rounds_no_worse first second s m out other rta_passed bcl_passed =
    let dominates = rta_dominates s m in
    record {
      bounds = λ k h. rw (word_at first s m 1 out rta_passed k h, word_at second s m 0 other bcl_passed k h) (dominates.bounds k h);
      keeps_marks = λ k h set_it_is.
          mark_at first s m 1 out rta_passed k h
          ∙ ap bit (dominates.keeps_marks k (is_set _ (sym (mark_at second s m 0 other bcl_passed k h) ∙ set_it_is)));
    }
  where
    is_set : (b : Bool) → bit b ≡ 1 → b ≡ true
    is_set true one = refl
    is_set false one = absurd (omega arith)

-- And of any two entries, whatever words they were lent.
pub rta_no_worse : (engine other : Engine) → EndsAlike engine → EndsAlike other → (first second : Refusal) (s : Sheet) (m : ℕ) (out behind : List ℕ)
    → (refined_of engine first s m 1).refusal ≡ 0 → (refined_of other second s m 0).refusal ≡ 0
    → NoWorse s (refined_of engine first s m 1) (refined_of other second s m 0) (refined_space_of engine first s m 1 out) (refined_space_of other second s m 0 behind)
rta_no_worse engine other alike alike_too first second s m out behind rta_zero bcl_zero =
    rw (
      alike_answer engine alike first s m 1,
      alike_words engine alike first s m 1 out,
      alike_answer other alike_too second s m 0,
      alike_words other alike_too second s m 0 behind,
    )
    (rounds_no_worse first second s m out behind
    (sym (refined-number engine first s m 1 out) ∙ rta_zero) (sym (refined-number other second s m 0 behind) ∙ bcl_zero))

-- The final bounds of allowed rows are at most a million.
pub final_small : (s : Sheet) (m method : ℕ) → Allowed s → (k : ℕ) → k < s.rows → get_or (final_bounds at_once s m method) k 0 ≤ 1_000_000
final_small s m method sizes k h =
    let sized = row_sized s sizes k h in
    rw (at_once_alike s m method) (omega (arith, ((final_ready s m method sizes).in_range k h).1))
