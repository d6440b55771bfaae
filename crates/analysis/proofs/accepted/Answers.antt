-- `accepted` is whether all marks are set; past the 64th row there is none, since the marks have 64 bits.
use mathlib.Core.Path.{sym}
use native.Mathlib.Omega.{arith}
use Rattle.laws.proofs.Bits.{every_past}
use Rattle.analysis.proofs.accepted.Goals as goal

pub returns-then-rows-gt64 : goal.returns-then-rows-gt64
returns-then-rows-gt64 c = sym (every_past c.args.marks 64 c.args.rows c.well_formed.0.1 (omega arith))
