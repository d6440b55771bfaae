-- `Notes::group_demand` meets its contract: what is noted is not too little, and what is noted anew is the group's demand.
use mathlib.Core.Path.{◌≡◌}
use native.Mathlib.Omega.{arith}
use Rattle.columns.specs.Checked.{checked_sheet}
use Rattle.verdict.specs.Inner.{group_demand}
use Rattle.verdict.proofs.Backward.{group_shown, notes_anew}
use Rattle.clear_lengths.proofs.notes.Notes.group_demand.Goals as goal
use Rattle.clear_lengths.proofs.notes.Notes.group_demand.Goals.{After-look_at_group-note}

-- What is noted anew is the group's demand.
exact : (c : After-look_at_group-note) → c.look_at_group-note.result.demand ≡ group_demand (checked_sheet c.args.self.now.checked) c.args.self.now.length c.args.group
exact c = group_shown _ _ c.args.group c.count.ensures c.saturating_sub-left.ensures (omega (arith, c.min.ensures)) c.look_at_group-note.ensures

pub invariant_of-self : goal.invariant_of-self
invariant_of-self c =
    let notes = c.args.self.now in
    record {
      within = notes.within;
      noted = notes_anew _ notes.checked.sizes _ notes.within _ c.args.group _ c.requires (exact (goal.at.invariant_of-self c).After-look_at_group-note) notes.noted;
    }
