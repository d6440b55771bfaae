-- `sweep_rows` stands where a sweep stands before each row, and where it has changed no bound, it has met the marks under them.
use mathlib.Core.Path.{◌≡◌, refl, sym, ◌∙◌, ap}
use Prim.Native.Nat.{ℕ, ◌≤◌}
use native.Mathlib.Numerals.{add-one}
use native.Mathlib.Omega.{arith}
use lib.ListN.{set}
use Rattle.std.specs.Cmp.Lexicographic.{same_text, other_text}
use Rattle.laws.specs.Sum.{total}
use Rattle.laws.specs.Bits.{bits}
use Rattle.laws.proofs.Bits.{bits_below, bits_next}
use Rattle.model.specs.Refine.{sweep}
use Rattle.model.proofs.Sheet.{few_rows}
use Rattle.model.proofs.Refine.{sweep_pass}
use Rattle.refinement.specs.Asked.{sheet, ask}
use Rattle.refinement.proofs.Steps.{asked_regular, sweep_ready, turn_found, mark_found, met_mark, met_marks, pass_moved, pass_still}
use Rattle.turns.proofs.sweep_rows.Goals as goal
use Rattle.turns.proofs.sweep_rows.Goals.{After-eq}

pub loop-row-init : goal.loop-row-init
unfolding sweep bits total
loop-row-init c = (refl, refl)

pub invariant_of-given : goal.invariant_of-given
invariant_of-given c =
    let q = c.loop-row in
    let asked = c.args.asked.now in
    let upto : q.row ≤ (sheet asked).rows = omega (arith, c.count-row-end.ensures) in
    record { ready = rw q.invariant.0 (sweep_ready _ _ (asked_regular asked) _ c.requires.0.ready c.requires.0.held q.row upto) }

pub with_mark-seen-requires : goal.with_mark-seen-requires
with_mark-seen-requires c =
    let q = c.loop-row in
    (omega (arith, few_rows _ c.requires.0.ready.rows, c.count-row-end.ensures), rw q.invariant.1 (bits_below _ q.row))

pub loop-row-preserved : goal.loop-row-preserved
unfolding sweep met_mark
loop-row-preserved c =
    let q = c.loop-row in
    let found = rw q.invariant.0 at c.bound_quickly-found.ensures in (
      rw (add-one, q.invariant.0) (ap (set _ q.row) (turn_found _ _ _ _ _ _ _ found c.deadline.ensures c.unwrap_or.ensures)),
      c.with_mark-seen.ensures ∙ bits_next _ q.row q.seen _ q.invariant.1 (mark_found _ _ _ _ found),
    )

-- The rows are done.
done : (c : After-eq) → c.loop-row.row ≡ (sheet c.args.asked.now).rows
done c = omega (arith, c.count-row-end.ensures)

-- So the bounds are what a sweep leaves.
swept : (c : After-eq) → let asked = c.args.asked.now in c.loop-row.bounds ≡ sweep (sheet asked) (ask asked) (sheet asked).rows c.args.bounds.now
swept c =
    let asked = c.args.asked.now in
    c.loop-row.invariant.0 ∙ ap (λ (n : ℕ). sweep (sheet asked) (ask asked) n c.args.bounds.now) (done (goal.at.After-eq c).After-eq)

pub returns-then-eq : goal.returns-then-eq
returns-then-eq c =
    let asked = c.args.asked.now in
    let passed = swept (goal.at.returns-then-eq c).After-eq in
    let same : c.loop-row.bounds ≡ c.args.bounds.now = same_text _ _ c.if-eq.ensures ∙ c.copy_from_slice.ensures.after in
    pass_still _ _ _ _ _ _ passed same
    (c.loop-row.invariant.1
    ∙ ap (bits _) (done (goal.at.returns-then-eq c).After-eq)
    ∙ met_marks _ _ (asked_regular asked) _ c.requires.0.held (sym passed ∙ same))

pub returns-else-eq : goal.returns-else-eq
returns-else-eq c =
    let asked = c.args.asked.now in
    let regular = asked_regular asked in
    pass_moved _ _ regular _ (sweep_pass _ _ regular) _ _ c.requires.0.held (swept (goal.at.returns-else-eq c).After-eq)
    (λ same. other_text _ _ c.if-eq.ensures (same ∙ sym c.copy_from_slice.ensures.after))
