-- `answer_in` prepares the shares and hands the row to the method that is asked for.
use mathlib.Core.Path.{ap}
use native.Mathlib.Omega.{arith}
use Rattle.std.proofs.Common.{rules}
use Rattle.rows.specs.Methods.{method_number}
use Rattle.refinement.specs.Refinement.{ask_of}
use Rattle.refinement.proofs.ByMethod.{by_bcl, by_rta}
use Rattle.response.proofs.answer_in.Goals as goal

pub returns-in-Bcl : goal.returns-in-Bcl
unfolding ask_of
returns-in-Bcl c = by_bcl _ _ _ _ _ _ (ap method_number c.in-Bcl.is) (search rules)

pub returns-in-Rta : goal.returns-in-Rta
unfolding ask_of
returns-in-Rta c = by_rta _ _ _ _ _ _ (λ is_zero. omega (arith, ap method_number c.in-Rta.is)) (search rules)
