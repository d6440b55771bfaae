-- `share_in_window` is the share of document 01: what lies between two marks of the rest is the difference of what lies before each.
use native.Mathlib.Omega.{arith}
use Rattle.model.specs.Interference.{share}
use Rattle.interference.proofs.share_in_window.Goals as goal

pub returns : goal.returns
unfolding share
returns c = omega arith
