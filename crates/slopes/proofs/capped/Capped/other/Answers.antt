-- `other` leaves the row itself out by its place.
use Rattle.refinement.proofs.Ways.{own_adds, other_adds}
use Rattle.slopes.proofs.capped.Capped.other.Goals as goal

pub returns-then-other-self : goal.returns-then-other-self
returns-then-other-self c = own_adds _ _ _ _ _ _ _ c.if-other-self.true

pub returns : goal.returns
returns c = other_adds _ _ _ _ _ _ _ _ _ _ c.if-other-self.false c.term.ensures
