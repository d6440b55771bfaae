-- The answer keeps its promise, and the promise fixes the answer: the refusal by the table, the reply by the sums in billionths. What it
-- says is then true of the exact densities.
use mathlib.Core.Path.{◌≡◌, refl, sym, ◌∙◌, ap}
use mathlib.Core.Bool.{Bool}
use mathlib.Core.Logic.{◌↔◌}
use Prim.Native.Nat.{ℕ, ◌*◌, ◌≤◌, ◌<◌}
use native.Mathlib.Decide.{ℕ_discrete}
use native.Mathlib.Omega.{arith}
use Rattle.laws.specs.Choice.{unless_refused}
use Rattle.laws.proofs.Choice.{not-refused, is_refused, one_answer}
use Rattle.laws.proofs.Promised.{Parts, kept, fixed}
use Rattle.model.specs.Sheet.{Sheet, Allowed}
use Rattle.model.specs.Density.{left_side, Meets, Judgement, holds, fails, unsure, density, Exact, common_whole, parts_of_whole, Near, Says}
use Rattle.model.specs.Alike.{Alike}
use Rattle.model.proofs.Sheet.{some_rows}
use Rattle.model.proofs.Density.{density_means, density-fixed, density_says, density_alike, exact_parts, deadlines_whole}
use Rattle.refusals.specs.Refusals.{Refusal}
use Rattle.refusals.specs.Refusals.{refused}
use Rattle.rows.specs.Layouts.{Lent, shape_refusal, SameRows}
use Rattle.rows.proofs.Alike.{laid_refusal_alike}
use Rattle.rows.proofs.Checks.{shape_refused}
use Rattle.rows.proofs.Layouts.{same_rows_answered}
use Rattle.quick_look.specs.declared.Reply.{Reply}
use Rattle.quick_look.specs.declared.Reply.TheVariants.{Yes, No, Unsure}
use Rattle.quick_look.specs.DensityTest.{DensityAnswer}
use Rattle.quick_look.specs.DensityTest.{density_refusal_of, reply_of, judgement_of, reply_number, density_of, density_in, Judgeable, Judges, DensityPromise}
use Rattle.quick_look.proofs.Checked.{checked, checked_passes}

-- A judgement in the code's words is read back as itself, and a reply too.
judgement_back : (j : Judgement) → judgement_of (reply_of j) ≡ j
unfolding reply_of judgement_of
judgement_back holds = refl
judgement_back fails = refl
judgement_back unsure = refl

reply_back : (r : Reply) → reply_of (judgement_of r) ≡ r
unfolding reply_of judgement_of
reply_back Yes = refl
reply_back No = refl
reply_back Unsure = refl

-- Refused, the answer is the refused one; not refused, what was worked out.
pub density-refused : (refusal : Refusal) (s : Sheet) (m : ℕ) → (refusal.number ≡ 0 → ⊥)
    → density_of refusal s m ≡ record { refusal = refusal.number; place = refusal.place; answer = Unsure }
unfolding density_of
density-refused refusal s m one_holds = is_refused _ _ _ one_holds

pub density_worked : (refusal : Refusal) (s : Sheet) (m : ℕ) → refusal.number ≡ 0
    → density_of refusal s m ≡ record { refusal = 0; place = 0; answer = reply_of (density s m) }
unfolding density_of
density_worked refusal s m none_holds = not-refused _ _ _ none_holds

-- What is worked out means what it should, and nothing else does.
worked_judges : (s : Sheet) (m : ℕ) → Allowed s → 1 ≤ m → Judges s m (reply_of (density s m))
worked_judges s m sizes some_processor =
    record {
      in_billionths = rw judgement_back (density_means s m);
      exactly = λ p x exact. rw judgement_back (density_says s p x exact (deadlines_whole s sizes) m some_processor (some_rows s sizes));
    }

judges_fixed : (s : Sheet) (m : ℕ) (reply : Reply) → Judges s m reply → reply ≡ reply_of (density s m)
judges_fixed s m reply judges = sym (reply_back reply) ∙ ap reply_of (density-fixed s m (judgement_of reply) judges.in_billionths)

-- An answer is its number, its place and its reply.
abbrev pub made : ℕ → ℕ → Reply → DensityAnswer
made number place reply = record { refusal = number; place = place; answer = reply }

parts : Parts {A = DensityAnswer} (λ a. a.refusal) (λ a. a.place) (λ a. a.answer) made
parts = record { number_of = λ n p b. refl; place_of = λ n p b. refl; said_of = λ n p b. refl; whole = λ a. refl }

module _ (broken : Bool) (s : Sheet) (m : ℕ) where
  -- The table's refusal; with number 0 its place is 0 too.
  abbrev table : Refusal
  table = density_refusal_of broken s m

  no_place : table.number ≡ 0 → table.place ≡ 0
  no_place zero = ap (λ (r : Refusal). r.place) (checked_passes broken s m (checked broken s m zero))

  -- The answer keeps the promise.
  pub density_keeps : DensityPromise table s m (density_of table s m)
  unfolding density_of
  density_keeps =
      let carries =
      kept _ _ _ made parts table.number table.place Unsure (reply_of (density s m)) (Judges s m) no_place
      (λ zero. let facts = checked broken s m zero in worked_judges s m facts.sizes facts.some_processor) in
      record { number = carries.numbered; place = carries.placed; means = carries.means; nothing = carries.nothing }

  -- Whatever keeps the promise is the answer.
  pub density-answer-fixed : (a : DensityAnswer) → DensityPromise table s m a → a ≡ density_of table s m
  unfolding density_of
  density-answer-fixed a promise =
      fixed _ _ _ made parts table.number table.place Unsure (reply_of (density s m)) (Judges s m) no_place (λ zero. judges_fixed s m) a
      (record { numbered = promise.number; placed = promise.place; means = promise.means; nothing = promise.nothing })

  -- It is not refused exactly where everything asked for holds.
  pub density-not-refused : ((density_of table s m).refusal ≡ 0) ↔ Judgeable broken s m
  density-not-refused = (
    λ zero. checked broken s m (sym density_keeps.number ∙ zero),
    λ facts. density_keeps.number ∙ ap (λ (r : Refusal). r.number) (checked_passes broken s m facts),
  )

-- What is said of the exact densities, whatever common denominator they are told over.
module _ (broken : Bool) (s : Sheet) (m p : ℕ) (x : ℕ → ℕ) (exact : Exact s p x) where
  -- The whole answer.
  abbrev said : DensityAnswer
  said = density_of (density_refusal_of broken s m) s m

  -- Not refused, its reply is true of them.
  says_exactly : (reply : Reply) → said.answer ≡ reply → said.refusal ≡ 0 → Says m p x s.rows (judgement_of reply)
  says_exactly reply is_reply zero = rw is_reply at (((density_keeps broken s m).means zero).exactly p x exact)

  -- A reply with another number than that of a refused answer was not refused.
  sure : (reply : Reply) → said.answer ≡ reply → (reply_number reply ≡ 0 → ⊥) → said.refusal ≡ 0
  unfolding reply_number
  sure reply is_reply numbered = decided (ℕ_discrete said.refusal 0)
    where
      decided : Dec (said.refusal ≡ 0) → said.refusal ≡ 0
      decided (yes zero) = zero
      decided (no one_refused) = absurd (numbered (ap reply_number (sym is_reply ∙ (density_keeps broken s m).nothing one_refused)))

  -- Yes: they meet the test. No: they do not. Unsure, where it is not refused: they are near.
  pub yes_holds : said.answer ≡ Yes → Meets m p x s.rows
  unfolding judgement_of reply_number
  yes_holds is_yes = says_exactly Yes is_yes (sure Yes is_yes (λ zero. omega arith))

  pub no_fails : said.answer ≡ No → m * p < left_side m x s.rows
  unfolding judgement_of reply_number
  no_fails is_no = says_exactly No is_no (sure No is_no (λ zero. omega arith))

  pub unsure_near : said.refusal ≡ 0 → said.answer ≡ Unsure → Near m p x s.rows
  unfolding judgement_of
  unsure_near zero is_unsure = says_exactly Unsure is_unsure zero

-- So of the product of all deadlines, over which every allowed sheet's densities can be told.
pub whole_exact : (s : Sheet) → Allowed s → Exact s (common_whole s) (parts_of_whole s)
whole_exact s sizes = exact_parts s (deadlines_whole s sizes)

-- Any two results that the contract allows are equal.
pub density_unique : (refusal : Refusal) (s : Sheet) (m : ℕ) (a b : DensityAnswer) → a ≡ density_of refusal s m → b ≡ density_of refusal s m → a ≡ b
density_unique refusal s m a b = one_answer

-- The number of a reply fixes it.
pub reply_fixed : (r q : Reply) → reply_number r ≡ reply_number q → r ≡ q
unfolding reply_number
reply_fixed Yes Yes same = refl
reply_fixed Yes No same = absurd (omega arith)
reply_fixed Yes Unsure same = absurd (omega arith)
reply_fixed No Yes same = absurd (omega arith)
reply_fixed No No same = refl
reply_fixed No Unsure same = absurd (omega arith)
reply_fixed Unsure Yes same = absurd (omega arith)
reply_fixed Unsure No same = absurd (omega arith)
reply_fixed Unsure Unsure same = refl

-- Refused, every number but the refusal's own number and place is 0.
pub refused-zero : (broken : Bool) (s : Sheet) (m : ℕ) → let a = density_of (density_refusal_of broken s m) s m in
    (a.refusal ≡ 0 → ⊥) → reply_number a.answer ≡ 0
unfolding reply_number
refused-zero broken s m one_holds = ap reply_number ((density_keeps broken s m).nothing one_holds)

-- Alike sheets are refused alike, and an equal refusal and alike sheets give an equal answer; so the same rows have one answer, whatever
-- their layouts.
pub density_refusal_alike : (m : ℕ) (s t : Sheet) → Alike s t → (broken : Bool) → density_refusal_of broken s m ≡ density_refusal_of broken t m
unfolding density_refusal_of
density_refusal_alike m s t alike broken = laid_refusal_alike s t alike broken _

pub density-answer_alike : (m : ℕ) (s t : Sheet) → Alike s t → (refusal : Refusal) → density_of refusal s m ≡ density_of refusal t m
unfolding density_of
density-answer_alike m s t alike refusal =
    ap (λ (j : Judgement). unless_refused refusal.number (made refusal.number refusal.place Unsure) (made 0 0 (reply_of j)))
    (density_alike s t alike m)

pub density-same : (one other : Lent) → SameRows one other → (m : ℕ) → density_in one m ≡ density_in other m
density-same one other same m =
    same_rows_answered (λ broken s. density_refusal_of broken s m) (λ refusal s. density_of refusal s m) (density_refusal_alike m)
    (density-answer_alike m) one other same

-- Rows that 2 or 3 refuses are answered so, whatever the processors.
pub density_shape_refused : (lent : Lent) (m : ℕ) → (shape_refusal lent ≡ 0 → ⊥) → density_in lent m ≡ made (shape_refusal lent) 0 Unsure
unfolding density_refusal_of
density_shape_refused lent m held =
    ap (λ (r : Refusal). density_of r lent.sheet m) (shape_refused lent _ held)
    ∙ density-refused (refused (shape_refusal lent) 0) lent.sheet m held
