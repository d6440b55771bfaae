-- Every row's bound is allowed, or one is not: so said `all`, of the rows from 0 on.
use mathlib.Core.Path.{◌≡◌, refl, ◌∙◌, ap}
use mathlib.Core.Bool.{Bool, true, false}
use Prim.Native.Nat.{ℕ}
use native.Mathlib.Omega.{arith}
use Rattle.std.proofs.Common.{rules}
use Rattle.std.proofs.lemmas.Iterator.{cases_from_all, YieldsList-from_range}
use Rattle.columns.specs.Rows.{sheet_in}
use Rattle.refinement.specs.Question.{bound_allowed}
use Rattle.laws.specs.Bits.{every}
use Rattle.marks.proofs.Counted.{counted}
use Rattle.analysis.proofs.checks.bounds_allowed.Goals as goal

pub returns : goal.returns
returns c =
    let rows = c.count.result in
    let passes : ℕ → Bool = bound_allowed (sheet_in c.args.rows.now) c.args.bounds.now in
    counted passes rows c.all.result
    (cases_from_all _ _ _ (λ k. passes k ≡ true) (λ k. passes k ≡ false) c.all.ensures.ran (YieldsList-from_range 0 rows rows refl (omega arith))
    (λ x q k. search rules)
    (λ x q k. search rules))
    ∙ ap (every passes) c.count.ensures
