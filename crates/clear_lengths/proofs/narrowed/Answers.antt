-- `clear_lengths::narrowed` meets its contract: with nothing noted yet the notes hold, and backward steps that came down to the lower end
-- clear all up to where they began; where they stopped before is the new upper end.
use mathlib.Core.Path.{refl}
use Rattle.verdict.proofs.Backward.{notes_first}
use Rattle.clear_lengths.proofs.narrowed.Goals as goal

pub invariant_of-notes : goal.invariant_of-notes
invariant_of-notes c = record { within = c.requires.0; noted = notes_first _ c.args.checked.sizes _ c.requires.0 _ refl }
