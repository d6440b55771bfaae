-- The C face: an answer that holds an enum is told in numbers alone. Refusal and place stay what they are.
use Rattle.refinement.specs.Question.{OneRow}
use Rattle.rows.specs.Words.{bound_number}
use Rattle.verdict.specs.OneProcessor.{Answer}
use Rattle.verdict.specs.OneProcessor.{outcome_number, outcome_value}
use Rattle.quick_look.specs.DensityTest.{DensityAnswer}
use Rattle.quick_look.specs.DensityTest.{reply_number}
use Rattle.board.specs.declared.RowNumbers.{RowNumbers}
use Rattle.board.specs.declared.OutcomeNumbers.{OutcomeNumbers}
use Rattle.board.specs.declared.DensityNumbers.{DensityNumbers}

-- The answer to the one-row question: the bound, or 0 for none.
unfoldable pub row_in_numbers : OneRow → RowNumbers
row_in_numbers said = record { refusal = said.refusal; place = said.place; bound = bound_number said.answer }

-- The answer of the exact test: undecided is 0 and 0, miss t is 1 and t, fits b is 2 and b.
unfoldable pub outcome_in_numbers : Answer → OutcomeNumbers
outcome_in_numbers said =
    record {
      refusal = said.refusal;
      place = said.place;
      outcome = outcome_number said.outcome;
      length = outcome_value said.outcome;
    }

-- The answer of the density test: unsure is 0, yes 1, no 2.
unfoldable pub density_in_numbers : DensityAnswer → DensityNumbers
density_in_numbers said = record { refusal = said.refusal; place = said.place; answer = reply_number said.answer }
