-- `descend` repeats what lowers bounds and keeps what they hold.
use Rattle.refinement.proofs.Descent.{descended_running}
use Rattle.ray.proofs.descend.Goals as goal

pub ray_once-further-requires : goal.ray_once-further-requires
ray_once-further-requires c = descended_running _ _ _ _ _ _ c.requires c.loop.invariant
