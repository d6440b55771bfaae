-- `share_line` lies over the share: it never rises, and falls with the bound while the carried job lasts.
use native.Mathlib.Omega.{arith}
use native.Mathlib.Nat.{zero-add}
use Rattle.model.proofs.Lines.{share_falls, share_falls_fast}
use Rattle.slopes.proofs.dropping.Dropping.share_line.Goals as goal

pub returns : goal.returns
returns c =
    let r = c.args.self.now in
    let window = c.args.window in
    let lasts = c.steps_within-lasts.ensures in
    let carry = c.saturating_sub-carry.ensures in
    c.falling.ensures _
    (rw c.share_in_window.ensures (share_falls r.cost r.deadline r.period r.bound window r.drop c.args.most))
    (λ some.
    rw (zero-add r.drop, c.share_in_window.ensures)
    (share_falls_fast r.cost r.deadline r.period r.bound window r.drop _ r.in_range.1 r.in_range.0 (rw carry at (lasts.shows some))
    (λ t h. rw carry at (lasts.inside t (omega arith)))))
