-- The density test: the whole answer to rows and processors, and what it promises.
use Rattle.std.specs.Prelude.{◌≡◌, Bool, false, List, [], ◌∷◌, ℕ, ◌≤◌}
use Rattle.laws.specs.Choice.{unless_refused}
use Rattle.model.specs.Sheet.{Sheet, Allowed}
use Rattle.model.specs.Density.{Judgement, holds, fails, unsure, density, InBillionths, Exact, Says}
use Rattle.refusals.specs.Refusals.{Refusal}
use Rattle.rows.specs.Checks.{processors_refusal, first_held, laid_refusal}
use Rattle.rows.specs.Layouts.{Lent, in_triples}
use Rattle.quick_look.specs.declared.Reply.{Reply}
use Rattle.quick_look.specs.declared.Reply.TheVariants.{Yes, No, Unsure}

-- What the test answers: a refusal's number and place, or 0 and 0, and a reply. A refused answer says Unsure.
pub record DensityAnswer : Type 0 where
  pub refusal : ℕ
  pub place : ℕ
  pub answer : Reply

-- The checks that apply, in number order: 2, 3, 4, 8.
unfoldable pub density_refusal_of : Bool → Sheet → ℕ → Refusal
density_refusal_of broken s m = laid_refusal broken s (first_held (processors_refusal m ∷ []))

-- The three answers in the code's words: yes, no, unsure.
unfoldable pub reply_of : Judgement → Reply
reply_of holds = Yes
reply_of fails = No
reply_of unsure = Unsure

-- The same read back.
unfoldable pub judgement_of : Reply → Judgement
judgement_of Yes = holds
judgement_of No = fails
judgement_of Unsure = unsure

-- Each case as a number: unsure is 0, yes 1, no 2.
unfoldable pub reply_number : Reply → ℕ
reply_number Unsure = 0
reply_number Yes = 1
reply_number No = 2

-- The whole answer, by what the checks gave and by the sheet. Refused, it has the refusal's number and place, and its case is the one of 0;
-- not refused, it carries number 0 and place 0.
unfoldable pub density_of : Refusal → Sheet → ℕ → DensityAnswer
density_of refusal s m =
    unless_refused refusal.number (record { refusal = refusal.number; place = refusal.place; answer = Unsure })
    (record { refusal = 0; place = 0; answer = reply_of (density s m) })

-- The whole answer of rows, in whatever layout.
abbrev pub density_in : Lent → ℕ → DensityAnswer
density_in lent m = density_of (density_refusal_of lent.broken lent.sheet m) lent.sheet m

-- The whole answer of rows in a word list.
abbrev pub density_test : List ℕ → ℕ → DensityAnswer
density_test words m = density_in (in_triples words) m

-- What a test that is not refused was given: a layout that is not broken, a sheet of allowed sizes and 1 to 64 processors.
pub record Judgeable (broken : Bool) (s : Sheet) (m : ℕ) : Type 0 where
  pub laid : broken ≡ false
  pub sizes : Allowed s
  pub some_processor : 1 ≤ m
  pub few : m ≤ 64

-- What an answer that is not refused means: it is the one of the sums in billionths, and it is true of the exact densities, whatever common
-- denominator they are told over.
pub record Judges (s : Sheet) (m : ℕ) (reply : Reply) : Type 0 where
  pub in_billionths : InBillionths s m (judgement_of reply)
  pub exactly : (p : ℕ) (x : ℕ → ℕ) → Exact s p x → Says m p x s.rows (judgement_of reply)

-- What an answer promises: it is refused exactly as the checks say; not refused, it means the above; refused, it says nothing more.
pub record DensityPromise (refusal : Refusal) (s : Sheet) (m : ℕ) (a : DensityAnswer) : Type 0 where
  pub number : a.refusal ≡ refusal.number
  pub place : a.place ≡ refusal.place
  pub means : a.refusal ≡ 0 → Judges s m a.answer
  pub nothing : (a.refusal ≡ 0 → ⊥) → a.answer ≡ Unsure
