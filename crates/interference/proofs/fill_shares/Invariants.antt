-- The loop of `fill_shares`: the terms of the rows passed stand in front.
use mathlib.Core.Path.{◌≡◌}
use mathlib.Core.List.{◌++◌}
use lib.ListN.{drop}
use Rattle.laws.specs.Fill.{listed}
use Rattle.model.specs.Interference.{bcl_term}
use Rattle.refinement.specs.Asked.{sheet}
use Rattle.interference.proofs.fill_shares.Given as goal

abbrev pub invariant-loop-other : goal.invariant-loop-other
invariant-loop-other l = l.out ≡ listed (bcl_term (sheet l.given.asked) l.row l.given.bounds.now) l.other ++ drop l.other l.initial.out
