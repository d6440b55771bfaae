-- Line one as written: both numbers are read where they stand.
use Rattle.grammar.specs.Grammar.{processors_written, rows_written}
use Rattle.form.proofs.first_line.Goals as goal

pub returns : goal.returns
unfolding processors_written rows_written
returns c = record { processors = c.two_digits.ensures; rows = c.two_digits-2.ensures }
