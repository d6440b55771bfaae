-- The loop of `Notes::clear_down_to`: every length behind the one reached is clear. The length falls.
use mathlib.Core.Path.{◌≡◌}
use Prim.Native.Nat.{◌≤◌}
use Rattle.columns.specs.Checked.{checked_sheet}
use Rattle.verdict.specs.Inner.{Clear}
use Rattle.clear_lengths.proofs.notes.Notes.clear_down_to.Given as goal

abbrev pub invariant-loop-self : goal.invariant-loop-self
invariant-loop-self l = (l.self.length ≤ l.fn.self.length) × Clear (checked_sheet l.self.checked) l.self.length l.fn.self.length
    × (l.self.checked ≡ l.fn.self.checked)

abbrev pub decreases-loop-self : goal.decreases-loop-self
decreases-loop-self l = l.self.length
