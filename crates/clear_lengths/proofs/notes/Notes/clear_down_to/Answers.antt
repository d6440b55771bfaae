-- `Notes::clear_down_to` meets its contract: a step back goes no further than the demand clears, and what is noted holds in a shorter length.
use mathlib.Core.Path.{◌∙◌}
use Prim.Native.Nat.{◌≤◌}
use native.Mathlib.Omega.{arith}
use Rattle.verdict.proofs.Backward.{step_back, notes_shorter}
use Rattle.clear_lengths.proofs.notes.Notes.clear_down_to.Goals as goal
use Rattle.clear_lengths.proofs.notes.Notes.clear_down_to.Goals.{After-saturating_sub-self}

-- A step back leads to no longer length.
shorter : (c : After-saturating_sub-self) → c.saturating_sub-self.result ≤ c.noted_demand-sum.new.self.length
shorter c = omega (arith, c.saturating_sub-self.ensures, c.if-self-sum.false)

pub invariant_of-self : goal.invariant_of-self
invariant_of-self c =
    let notes = c.noted_demand-sum.new.self in
    let down = shorter (goal.at.invariant_of-self c).After-saturating_sub-self in
    record { within = omega (arith, notes.within, down); noted = notes_shorter _ _ _ _ down notes.noted }

pub loop-self-preserved : goal.loop-self-preserved
loop-self-preserved c =
    let q = c.loop-self in
    let known = c.noted_demand-sum.ensures in (
      omega (arith, known.kept.1, q.invariant.0, shorter (goal.at.loop-self-preserved c).After-saturating_sub-self),
      rw (c.saturating_sub-self.ensures, known.kept.0)
          (step_back _ q.self.length _ _ q.invariant.1 known.lower_bound (rw known.kept.1 at c.if-self-sum.false)),
      known.kept.0 ∙ q.invariant.2,
    )
