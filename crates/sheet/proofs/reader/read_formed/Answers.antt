-- More than 64 rows are refused here; the others have space for their words in an array of 192.
use mathlib.Core.Path.{refl, sym}
use native.Mathlib.Omega.{arith}
use lib.ListN.{length}
use Rattle.refusals.specs.Refusals.{refused}
use Rattle.grammar.proofs.Refusals.{reading_refused, many_refused}
use Rattle.sheet.proofs.reader.read_formed.Goals as goal

pub returns-then-header-gt64 : goal.returns-then-header-gt64
returns-then-header-gt64 c =
    let both = reading_refused (refused 3 0) _ c.args.bytes.now c.args.words.now _ refl
    (sym (many_refused c.args.bytes.now (length c.args.words.now) (rw c.first_line-header.ensures.rows at c.if-header-gt64.true)))
    (λ none-holds. omega arith) in record { value = both.0; words_left = both.1 }
