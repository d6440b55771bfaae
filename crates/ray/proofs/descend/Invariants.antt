-- The loop of `descend`: the rays so far have gone down.
use Rattle.refinement.specs.Asked.{sheet, ask}
use Rattle.refinement.specs.Inner.Ray.{Descended}
use Rattle.ray.proofs.descend.Given as goal

abbrev pub invariant-loop : goal.invariant-loop
invariant-loop l = Descended (sheet l.asked) (ask l.asked) l.initial.bounds l.bounds
