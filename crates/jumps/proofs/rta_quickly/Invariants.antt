-- The loop of `rta_quickly`: what lasts from turn to turn, and what falls.
use Prim.Native.Nat.{◌+◌, ◌-◌, ◌<◌}
use Rattle.laws.proofs.Climb.{Climbed}
use Rattle.model.specs.Interference.{rta_right}
use Rattle.refinement.specs.Asked.{sheet}
use Rattle.pending.specs.Added.{MetBy}
use Rattle.jumps.proofs.rta_quickly.Given as goal

abbrev pub invariant-loop-x : goal.invariant-loop-x
invariant-loop-x l =
    let s = sheet l.given.asked in record {
      climbed : Climbed (rta_right s l.given.asked.processors l.row l.given.bounds.now) (s.cost l.row) l.x;
      behind : l.step < l.x;
      met : MetBy s l.given.bounds.now l.space.pending l.row l.x;
    }

abbrev pub decreases-loop-x : goal.decreases-loop-x
decreases-loop-x l = l.sought.top + 1 - l.x
