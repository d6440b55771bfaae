-- The loop of `read_rows`: in front stand the words read so far, and behind them what stood there.
use mathlib.Core.Path.{◌≡◌}
use mathlib.Core.List.{◌++◌}
use lib.ListN.{drop}
use Rattle.laws.specs.Fill.{listed}
use Rattle.grammar.specs.Lines.{word_written}
use Rattle.sheet.proofs.reader.read_rows.Given as goal

abbrev pub invariant-loop-word : goal.invariant-loop-word
invariant-loop-word l = l.words ≡ listed (word_written l.bytes) l.word ++ drop l.word l.initial.words
