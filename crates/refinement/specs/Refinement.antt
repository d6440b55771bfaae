-- Refinement: its checks, what either engine answers, and what it leaves in the lent words.
use Rattle.std.specs.Prelude.{◌≡◌, Bool, List, [], ◌∷◌, ℕ, ◌≤◌, ◌<◌, ◌^◌, length, get_or, take, drop, eqb}
use Rattle.laws.specs.Choice.{unless_refused, pick}
use Rattle.laws.specs.Fill.{Below, at_front}
use Rattle.laws.specs.Bits.{bit, bit_at}
use Rattle.model.specs.Sheet.{Sheet}
use Rattle.model.specs.Answer.{method_of, answer}
use Rattle.model.specs.Refine.{Ask, rounds, at_once, marked, marks, Largest}
use Rattle.refusals.specs.Refusals.{Refusal}
use Rattle.std.specs.declared.option.Option.TheVariants.{Some, None}
use Rattle.rows.specs.Checks.{processors_refusal, method_refusal, room_refusal, first_held, laid_refusal}
use Rattle.rows.specs.Layouts.{Lent, in_triples}
use Rattle.refinement.specs.declared.Refined.{Refined}
use Rattle.refinement.specs.Question.{one_row_refusal_of, one_row_of, Posed}

-- The one-row answer that a sheet, processors and method number ask for.
unfoldable pub ask_of : Sheet → ℕ → ℕ → Ask
ask_of s processors method = answer (method_of method) s processors

-- The checks of a refinement, on rows in whatever layout, whose answer needs so much room: 2, 3, 4, 5, 7, 8.
unfoldable pub refine_refusal_of : Bool → Sheet → ℕ → ℕ → ℕ → ℕ → Refusal
refine_refusal_of broken s processors method room need =
    laid_refusal broken s (first_held (processors_refusal processors ∷ method_refusal method ∷ room_refusal room need ∷ []))

-- An engine: the final bounds of a sheet under a one-row answer.
abbrev pub Engine : Type 0
Engine = Sheet → Ask → List ℕ

-- The final bounds that an engine gives, and the marks under them.
unfoldable pub final_bounds : Engine → Sheet → ℕ → ℕ → List ℕ
final_bounds engine s processors method = engine s (ask_of s processors method)

unfoldable pub final_marks : Engine → Sheet → ℕ → ℕ → ℕ
final_marks engine s processors method = marks s (ask_of s processors method) (final_bounds engine s processors method)

-- What is handed out of the final bounds: the bounds themselves.
unfoldable pub handed : Engine → Sheet → ℕ → ℕ → List ℕ
handed engine s processors method = final_bounds engine s processors method

-- What is answered to a refusal and a sheet: the refusal, or the marks under the final bounds.
unfoldable pub refined_of : Engine → Refusal → Sheet → ℕ → ℕ → Refined
refined_of engine refusal s processors method =
    unless_refused refusal.number (record { refusal = refusal.number; place = refusal.place; marks = 0 })
    (record { refusal = 0; place = 0; marks = final_marks engine s processors method })

-- What is left in the lent words: nothing changed where it refuses; else what is handed out at the front and nothing behind changed.
unfoldable pub refined_space_of : Engine → Refusal → Sheet → ℕ → ℕ → List ℕ → List ℕ
refined_space_of engine refusal s processors method out = at_front refusal.number (handed engine s processors method) out

-- The checks, the answer and the words left of rows, in whatever layout they are lent; the room asked for is one word for each row.
abbrev pub refine_refusal_in : Lent → ℕ → ℕ → ℕ → Refusal
refine_refusal_in lent processors method room = refine_refusal_of lent.broken lent.sheet processors method room lent.sheet.rows

abbrev pub refined_in : Engine → Lent → ℕ → ℕ → ℕ → Refined
refined_in engine lent processors method room = refined_of engine (refine_refusal_in lent processors method room) lent.sheet processors method

abbrev pub refined_words_in : Engine → Lent → ℕ → ℕ → List ℕ → List ℕ
refined_words_in engine lent processors method out =
    refined_space_of engine (refine_refusal_in lent processors method (length out)) lent.sheet processors method out

-- The same of rows in a word list.
abbrev pub refined : Engine → List ℕ → ℕ → ℕ → ℕ → Refined
refined engine words processors method room = refined_in engine (in_triples words) processors method room

abbrev pub refined_words : Engine → List ℕ → ℕ → ℕ → List ℕ → List ℕ
refined_words engine words processors method out = refined_words_in engine (in_triples words) processors method out

-- What a refinement that is not refused was given: what every question is given, and the room that its answer needs.
pub record Refinable (broken : Bool) (s : Sheet) (processors method room need : ℕ) : Type 0 where
  pub posed : Posed broken s processors method
  pub enough : need ≤ room

-- Demand 3 of the two entries, refused or not: the same answer, and the same words left behind.
pub record EntriesAgree (refusal : Refusal) (s : Sheet) (processors method : ℕ) (out : List ℕ) : Type 0 where
  pub same_answer : refined_of rounds refusal s processors method ≡ refined_of at_once refusal s processors method
  pub same_words : refined_space_of rounds refusal s processors method out ≡ refined_space_of at_once refusal s processors method out

-- What an answer and the words left behind promise where nothing is refused: number and place 0; in front the largest consistent set, behind
-- it what stood there; bit k is set exactly if row k is marked, and bits at and above the row count are 0; a row not marked has its deadline.
pub record Settled (s : Sheet) (processors method : ℕ) (said : Refined) (after out : List ℕ) : Type 0 where
  pub number : said.refusal ≡ 0
  pub place : said.place ≡ 0
  pub bounds : Largest s (ask_of s processors method) (take s.rows after)
  pub behind : drop s.rows after ≡ drop s.rows out
  pub each_mark : (k : ℕ) → k < s.rows → bit_at said.marks k ≡ bit (marked (ask_of s processors method) (take s.rows after) k)
  pub no_more : said.marks < 2 ^ s.rows
  pub unmarked : (k : ℕ) → k < s.rows → bit_at said.marks k ≡ 0 → get_or after k 0 ≡ s.deadline k

-- Asked row by row with the words handed out, the one-row question is not refused, and answers a row's bound exactly where it is marked.
abbrev pub AskedAgain : Bool → Sheet → ℕ → ℕ → Refined → List ℕ → Type 0
AskedAgain broken s processors method said after =
    (k : ℕ) → k < s.rows
    → let bounds = take s.rows after in
    one_row_of (one_row_refusal_of broken s processors method bounds k) s processors method bounds k
    ≡ record { refusal = 0; place = 0; answer = pick (eqb (bit_at said.marks k) 1) (Some (get_or after k 0)) None }

-- An engine that ends where the rounds engine ends, whatever it is given.
abbrev pub EndsAlike : Engine → Type 0
EndsAlike engine = (s : Sheet) (processors method : ℕ) → final_bounds engine s processors method ≡ final_bounds rounds s processors method

-- RTA's answer and words against BCL's: no word above, and every mark kept.
pub record NoWorse (s : Sheet) (rta bcl : Refined) (rta_words bcl_words : List ℕ) : Type 0 where
  pub bounds : Below s.rows rta_words bcl_words
  pub keeps_marks : (k : ℕ) → k < s.rows → bit_at bcl.marks k ≡ 1 → bit_at rta.marks k ≡ 1
