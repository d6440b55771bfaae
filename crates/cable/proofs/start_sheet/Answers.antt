-- The fresh state, field by field.
use mathlib.Core.Path.{refl}
use Rattle.pieces.specs.Feeding.{fresh}
use Rattle.cable.proofs.start_sheet.Goals as goal

pub returns : goal.returns
unfolding fresh
returns c = refl
