-- The loop of `sum_of_terms`: the sum over the rows passed, each within a million.
use mathlib.Core.Path.{◌≡◌}
use Prim.Native.Nat.{◌*◌, ◌≤◌}
use Rattle.refinement.specs.Asked.{sheet}
use Rattle.laws.specs.Sum.{total}
use Rattle.refinement.specs.Inner.{listed_share, term_of}
use Rattle.response.proofs.sum_of_terms.Given as goal

abbrev pub invariant-loop-other : goal.invariant-loop-other
invariant-loop-other l = (l.sum ≡ total (term_of (sheet l.given.asked) l.given.bounds.now (listed_share l.taken) l.x l.cap) l.other) × (l.sum ≤ l.other * 1_000_000)
