-- A wrong offset is refusal 1 with its place; a sheet of the right form is read on.
use mathlib.Core.Path.{◌≡◌, refl, sym, ◌∙◌}
use mathlib.Core.Option.{none, some}
use native.Mathlib.Omega.{arith}
use lib.ListN.{length}
use Rattle.refusals.specs.Refusals.{refused}
use Rattle.rows.proofs.Words.{found_some, found_none}
use Rattle.grammar.specs.Grammar.{first_wrong}
use Rattle.grammar.specs.Sheets.{read_sheet, words_after}
use Rattle.grammar.proofs.Refusals.{reading_refused, form_wrong, form_right}
use Rattle.sheet.proofs.read_sheet.Goals as goal

pub returns-in-Some : goal.returns-in-Some
unfolding read_sheet words_after
returns-in-Some c =
    let place = c.in-Some.offset in
    let wrong : first_wrong c.args.bytes.now ≡ some place =
    found_some _ place (sym c.first_wrong.ensures ∙ c.in-Some.is) in
    let both = reading_refused (refused 1 place) _ c.args.bytes.now c.args.words.now _ refl
    (sym (form_wrong c.args.bytes.now (length c.args.words.now) place wrong)) (λ none-holds. omega arith) in record { value = both.0; words_left = both.1 }

pub returns-in-None : goal.returns-in-None
unfolding read_sheet words_after
returns-in-None c =
    let right : first_wrong c.args.bytes.now ≡ none =
    found_none _ (sym c.first_wrong.ensures ∙ c.in-None.is) in
    let same = form_right c.args.bytes.now (length c.args.words.now) right in
    record { value = rw same c.read_formed.ensures.value; words_left = rw same c.read_formed.ensures.words_left }
