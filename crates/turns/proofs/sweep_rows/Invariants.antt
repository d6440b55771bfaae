-- The loop of `sweep_rows`: the bounds stand where the definition's sweep stands, and the marks are those that it met.
use mathlib.Core.Path.{◌≡◌}
use Rattle.laws.specs.Bits.{bits}
use Rattle.model.specs.Refine.{sweep}
use Rattle.refinement.specs.Asked.{sheet, ask}
use Rattle.refinement.proofs.Steps.{met_mark}
use Rattle.turns.proofs.sweep_rows.Given as goal

abbrev pub invariant-loop-row : goal.invariant-loop-row
invariant-loop-row l = (l.bounds ≡ sweep (sheet l.asked) (ask l.asked) l.row l.initial.bounds)
    × (l.seen ≡ bits (met_mark (sheet l.asked) (ask l.asked) l.initial.bounds) l.row)
