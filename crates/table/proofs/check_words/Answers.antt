-- `check_words` meets its contract: the checks are made in their order.
use mathlib.Core.Path.{◌≡◌, sym, ◌∙◌, ap}
use mathlib.Core.List.{[], ◌∷◌}
use native.Mathlib.Omega.{arith}
use Rattle.model.specs.Sheet.{triples}
use Rattle.rows.specs.Words.{sheet_of, found_of, first_outside}
use Rattle.refusals.specs.Refusals.{Refusal}
use Rattle.rows.specs.Checks.{processors_refusal, room_refusal, rows_refusal, words_refusal, first_held}
use Rattle.refusals.specs.Told.{said}
use Rattle.rows.specs.Layouts.{in_triples, shape_refusal}
use Rattle.rows.proofs.Words.{found_some, found_none}
use Rattle.rows.proofs.Fold.{held_none}
use Rattle.rows.proofs.Checks.{shape_passed}
use Rattle.rows.proofs.InOrder.{ended, passed, held_here, held_later, by_shape, by_own, by_sizes}
use Rattle.table.proofs.check_words.Goals as goal
use Rattle.table.proofs.check_words.Goals.{In_ok-check_shape, In_ok-check_processors, After-first_outside}

shaped : (c : In_ok-check_shape) → shape_refusal (in_triples c.args.words.now) ≡ 0
shaped c = passed _ c.in_ok-check_shape.ensures

some-processors : (c : In_ok-check_processors) → processors_refusal c.args.processors ≡ 0
some-processors c = passed _ c.in_ok-check_processors.ensures

pub returns-in_err-check_shape : goal.returns-in_err-check_shape
returns-in_err-check_shape c = ap said (ended _ _ c.from_residual.ensures.1) ∙ by_shape (in_triples c.args.words.now) _ _ c.in_err-check_shape.ensures

pub returns-in_err-check_processors : goal.returns-in_err-check_processors
returns-in_err-check_processors c =
    ap said (ended _ _ c.from_residual-in_err-check_processors.ensures.1)
    ∙ by_own (in_triples c.args.words.now) _ _ (shaped (goal.at.returns-in_err-check_processors c).In_ok-check_shape) (held_here _ _ _ c.in_err-check_processors.ensures)

pub returns-in_err-check_room : goal.returns-in_err-check_room
returns-in_err-check_room c =
    let at = goal.at.returns-in_err-check_room c in
    ap said (ended _ _ c.from_residual-in_err-check_room.ensures.1)
    ∙ by_own (in_triples c.args.words.now) _ _ (shaped at.In_ok-check_shape)
    (held_later _ _ _ (some-processors at.In_ok-check_processors) (held_here _ _ _ c.in_err-check_room.ensures))

pub overflow_cast-row_count : goal.overflow_cast-row_count
overflow_cast-row_count c =
    let few = (shape_passed _ (shaped (goal.at.overflow_cast-row_count c).In_ok-check_shape)).1 in omega (arith, c.row_count.ensures)

-- What the search found, and what is left to say of it.
found : (c : After-first_outside) → c.first_outside.result ≡ found_of (first_outside (sheet_of c.args.words.now))
unfolding sheet_of triples
found c = rw (← c.row_count.ensures) c.first_outside.ensures

left : (c : After-first_outside) (r : Refusal) → r ≡ rows_refusal (first_outside (sheet_of c.args.words.now))
    → r ≡ words_refusal c.args.words.now (first_held (processors_refusal c.args.processors ∷ room_refusal c.args.room c.args.need ∷ []))
left c r same =
    let at = goal.at.After-first_outside c in
    by_sizes (in_triples c.args.words.now) _ r (shaped at.In_ok-check_shape)
    (held_none _ (some-processors at.In_ok-check_processors, (passed _ c.in_ok-check_room.ensures, tt))) same

pub returns-in-Some : goal.returns-in-Some
unfolding rows_refusal
returns-in-Some c =
    let at = goal.at.returns-in-Some c in
    left at.After-first_outside _ (sym (ap rows_refusal (found_some _ _ (sym (found at.After-first_outside) ∙ c.in-Some.is))))

pub returns-in-None : goal.returns-in-None
unfolding rows_refusal
returns-in-None c =
    let at = goal.at.returns-in-None c in
    left at.After-first_outside _ (sym (ap rows_refusal (found_none _ (sym (found at.After-first_outside) ∙ c.in-None.is))))
