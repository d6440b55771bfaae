-- Two layouts answered the same by every entry on rows: what is returned, and what is left in lent space. A new entry is one more line.
use Rattle.std.specs.Prelude.{◌≡◌, List, ℕ}
use Rattle.model.specs.Refine.{rounds, at_once}
use Rattle.rows.specs.Layouts.{Lent}
use Rattle.refinement.specs.Question.{one_row_in}
use Rattle.refinement.specs.Refinement.{refined_in, refined_words_in}
use Rattle.verdict.specs.OneProcessor.{one_processor_in}
use Rattle.quick_look.specs.DensityTest.{density_in}
use Rattle.report.specs.Result.{write_result_in, result_after_in}

pub record SameAnswers (one other : Lent) : Type 0 where
  pub one_row : (m method : ℕ) (bounds : List ℕ) (row : ℕ) → one_row_in one m method bounds row ≡ one_row_in other m method bounds row
  pub by_rounds : (m method room : ℕ) → refined_in rounds one m method room ≡ refined_in rounds other m method room
  pub rounds_words : (m method : ℕ) (out : List ℕ) → refined_words_in rounds one m method out ≡ refined_words_in rounds other m method out
  pub by_at_once : (m method room : ℕ) → refined_in at_once one m method room ≡ refined_in at_once other m method room
  pub at_once_words : (m method : ℕ) (out : List ℕ) → refined_words_in at_once one m method out ≡ refined_words_in at_once other m method out
  pub one_processor : (horizon : ℕ) → one_processor_in one horizon ≡ one_processor_in other horizon
  pub density : (m : ℕ) → density_in one m ≡ density_in other m
  pub result : (m method room : ℕ) → write_result_in one m method room ≡ write_result_in other m method room
  pub result_bytes : (m method : ℕ) (out : List ℕ) → result_after_in one m method out ≡ result_after_in other m method out
