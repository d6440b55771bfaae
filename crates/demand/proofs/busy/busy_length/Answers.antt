-- `demand::busy::busy_length` meets its contract: the busy sum keeps order and is not below 1 at 1, so it is climbed to the busy length.
use mathlib.Core.Path.{◌≡◌}
use Prim.Native.Nat.{◌+◌, ◌-◌}
use native.Mathlib.Omega.{arith}
use Rattle.std.proofs.Common.{rules}
use Rattle.model.specs.Demand.{busy, busy_length}
use Rattle.columns.specs.Checked.{checked_sheet}
use Rattle.verdict.proofs.Busy.{busy_mono}
use Rattle.verdict.proofs.Sound.{busy_from_one}
use Rattle.demand.proofs.busy.busy_length.Goals as goal

pub returns : goal.returns
unfolding busy_length
returns c =
    let all : c.args.horizon + 1 - 1 ≡ c.args.horizon = omega arith in
    rw all at (c.climb.ensures (busy (checked_sheet c.args.checked))
    (record { order = busy_mono _; rises = busy_from_one _ c.args.checked.sizes; each = λ x y low high met. search rules }))
