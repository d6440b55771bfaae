-- The loop of `fill_turns`: the turns so far in front, and their marks.
use mathlib.Core.Path.{◌≡◌}
use mathlib.Core.List.{◌++◌}
use lib.ListN.{drop}
use Rattle.laws.specs.Fill.{listed}
use Rattle.laws.specs.Bits.{bits}
use Rattle.model.specs.Refine.{turn, marked}
use Rattle.refinement.specs.Asked.{sheet, ask}
use Rattle.turns.proofs.fill_turns.Given as goal

abbrev pub invariant-loop-row : goal.invariant-loop-row
invariant-loop-row l = (l.seen ≡ bits (marked (ask l.given.asked) l.given.bounds.now) l.row)
    × (l.next ≡ listed (λ k. turn (sheet l.given.asked) (ask l.given.asked) k l.given.bounds.now) l.row ++ drop l.row l.initial.next)
