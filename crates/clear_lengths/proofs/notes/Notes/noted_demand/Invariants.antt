-- The loop of `Notes::noted_demand`: the groups passed are summed up, and nothing but the notes changes.
use mathlib.Core.Path.{◌≡◌}
use Rattle.columns.specs.Checked.{checked_sheet}
use Rattle.verdict.proofs.Backward.{Summed}
use Rattle.clear_lengths.proofs.notes.Notes.noted_demand.Given as goal

abbrev pub invariant-loop-group : goal.invariant-loop-group
invariant-loop-group l = Summed (checked_sheet l.self.checked) l.self.length l.group l.sum
    × (l.self.checked ≡ l.fn.self.checked) × (l.self.length ≡ l.fn.self.length)
