-- `ray_once` makes the steps that the pass found to be allowed.
use native.Mathlib.Omega.{arith}
use native.Mathlib.Nat.{le_trans, le_of_eq}
use Rattle.model.proofs.Sheet.{few_rows}
use Rattle.refinement.proofs.Descent.{lowered_down}
use Rattle.ray.proofs.ray_once.Goals as goal

pub step_down-requires : goal.step_down-requires
step_down-requires c =
    let lowered = c.ray_pass-further.ensures in
    (omega (arith, lowered.one_each, few_rows _ c.requires.ready.rows), λ i h. lowered.room i (le_trans h (le_of_eq lowered.one_each)))

pub returns : goal.returns
returns c = lowered_down _ _ _ _ _ _ c.ray_pass-further.ensures _ c.ray_pass-further.ensures.one_each _ c.step_down.ensures
