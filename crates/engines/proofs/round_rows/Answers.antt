-- `round_rows` fills in every turn from the bounds at its start, and copies them back where one differs.
use mathlib.Core.Bool.{false}
use mathlib.Core.Path.{◌≡◌, sym, ◌∙◌}
use borrow.Author.Rules.{rules}
use Rattle.std.specs.Prelude.{nat_eq}
use Rattle.std.specs.Cmp.Lexicographic.{pointwise, other_text}
use Rattle.model.proofs.Refine.{round_pass}
use Rattle.refinement.proofs.Steps.{asked_regular, pass_moved}
use Rattle.engines.proofs.round_rows.Goals as goal

pub returns-clause-told : goal.returns-clause-told
returns-clause-told c =
    let asked = c.args.asked.now in
    let regular = asked_regular asked in
    let copied = c.copy_from_slice.ensures.after in
    let told : false ≡ pointwise nat_eq c.args.bounds.now c.fill_turns-seen.new.next = search rules in
    pass_moved _ _ regular _ (round_pass _ _ regular) _ _ c.requires.0.held (copied ∙ c.fill_turns-seen.ensures.turned)
    (λ same. other_text _ _ told (sym same ∙ copied))
