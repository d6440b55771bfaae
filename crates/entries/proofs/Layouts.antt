-- For every list of rows triples and columns give the same answers, refusals and words: they are the same rows, and the same rows are
-- answered the same by every entry.
use mathlib.Core.Path.{◌≡◌}
use mathlib.Core.Bool.{false}
use mathlib.Core.List.{List}
use Prim.Native.Nat.{ℕ}
use Rattle.model.specs.Sheet.{Sheet, columns}
use Rattle.model.specs.Refine.{rounds, at_once}
use Rattle.rows.specs.Words.{sheet_of}
use Rattle.rows.specs.Checks.{not_whole}
use Rattle.rows.specs.Layouts.{Lent, in_triples, uneven, in_columns, SameRows, as_triples, as_columns}
use Rattle.rows.proofs.Layouts.{layouts_same, as_columns_lem, as_triples_lem}
use Rattle.refinement.proofs.Demands.{rounds_alike, at_once_alike}
use Rattle.refinement.proofs.Layouts.{one_row_same, refined-same, refined_words_same}
use Rattle.verdict.proofs.Promised.{one_processor_same}
use Rattle.quick_look.proofs.Promised.{density-same}
use Rattle.report.proofs.Entries.{written_same, bytes_same}
use Rattle.entries.specs.Layouts.{SameAnswers}

pub same_answers : (one other : Lent) → SameRows one other → SameAnswers one other
same_answers one other same =
    record {
      one_row = one_row_same one other same;
      by_rounds = λ m method room. refined-same one other same m method rounds rounds_alike room;
      rounds_words = λ m method out. refined_words_same one other same m method rounds rounds_alike out;
      by_at_once = λ m method room. refined-same one other same m method at_once at_once_alike room;
      at_once_words = λ m method out. refined_words_same one other same m method at_once at_once_alike out;
      one_processor = one_processor_same one other same;
      density = density-same one other same;
      result = written_same one other same;
      result_bytes = bytes_same one other same;
    }

pub layouts_agree : (s : Sheet) → SameAnswers (as_triples s) (as_columns s)
layouts_agree s = same_answers (as_triples s) (as_columns s) (layouts_same s)

-- And for every lent list that is not broken: triples have columns that are answered the same, and columns have triples.
pub triples_agree : (words : List ℕ) → not_whole words ≡ false → SameAnswers (in_triples words) (as_columns (sheet_of words))
triples_agree words whole = same_answers (in_triples words) (as_columns (sheet_of words)) (as_columns_lem words whole)

pub columns_agree : (costs deadlines periods : List ℕ) → uneven costs deadlines periods ≡ false
    → SameAnswers (in_columns costs deadlines periods) (as_triples (columns costs deadlines periods))
columns_agree costs deadlines periods even =
    same_answers (in_columns costs deadlines periods) (as_triples (columns costs deadlines periods)) (as_triples_lem costs deadlines periods even)
