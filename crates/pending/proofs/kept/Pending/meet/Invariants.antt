-- The loop of `meet`: what lasts from turn to turn.
use mathlib.Core.Path.{◌≡◌}
use Prim.Native.Nat.{ℕ, ◌+◌, ◌*◌, ◌≤◌}
use Rattle.laws.specs.Sum.{total}
use Rattle.refinement.specs.Asked.{sheet}
use Rattle.refinement.specs.Inner.{term_of, share_in}
use Rattle.pending.specs.Added.{most, added}
use Rattle.pending.proofs.kept.Pending.meet.Given as goal

abbrev pub invariant-loop-place : goal.invariant-loop-place
invariant-loop-place l =
    let s = sheet l.given.asked in
    let adds = λ (x cap : ℕ). total (term_of s l.given.bounds.now (share_in s l.given.bounds.now l.window) x cap) in record {
      small : most l.self ≤ l.place * 1_000_000;
      sums : (x cap : ℕ) → 1 ≤ x → 1 ≤ cap → added l.self x cap + adds x cap l.from ≡ added l.initial.self x cap + adds x cap l.place;
    }
