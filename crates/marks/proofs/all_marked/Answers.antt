-- Every row passed the test, or one did not: so said `all`, of the rows from 0 on.
use mathlib.Core.Path.{◌≡◌, refl}
use mathlib.Core.Bool.{true, false}
use native.Mathlib.Omega.{arith}
use borrow.Author.Tests.{tests}
use Rattle.std.proofs.Common.{rules}
use Rattle.std.proofs.lemmas.Iterator.{cases_from_all, YieldsList-from_range}
use Rattle.laws.specs.Bits.{is_set}
use Rattle.marks.proofs.Counted.{counted}
use Rattle.marks.proofs.all_marked.Goals as goal

pub returns : goal.returns
unfolding is_set
returns c =
    let p = c.args in
    counted (is_set p.marks) p.rows c.all.result
    (cases_from_all _ _ _ (λ k. is_set p.marks k ≡ true) (λ k. is_set p.marks k ≡ false) c.all.ensures.ran (YieldsList-from_range 0 p.rows p.rows refl (omega arith))
    (λ x q k. search (rules, tests))
    (λ x q k. search (rules, tests)))
