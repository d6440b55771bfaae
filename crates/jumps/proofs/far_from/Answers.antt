-- `far_from` stays, or goes to a number at which, as at the present one, the lines exclude. What it tries is halved each time.
use native.Mathlib.Omega.{arith}
use mathlib.Core.Path.{◌≡◌, sym, ◌∙◌, ap}
use Prim.Native.Nat.{◌+◌, ◌-◌}
use mathlib.Core.Bool.{not}
use borrow.Author.Tests.{not-false, leb-true}
use Rattle.refinement.proofs.Chord.{chord_passes}
use Rattle.jumps.proofs.far_from.Goals as goal

pub returns-then-line_excludes : goal.returns-then-line_excludes
returns-then-line_excludes c =
    let pending = c.args.pending.now in
    let own = c.args.sought.own in
    let x = c.args.x in
    let far = c.loop-far.far in
    let near_end = c.at-here.ensures in
    let far_end = c.at-there.ensures in
    let cap : x + far - own + 1 ≡ x - own + 1 + far = omega (arith, c.requires.0) in
    let here = sym c.line_excludes.ensures ∙ not-false _ (ap not c.if-not-line_excludes.false) in
    let there = sym c.line_excludes-in-loop-far.ensures ∙ c.if-line_excludes.true in (
      omega arith,
      omega arith,
      chord_passes _ _ pending.kept.rows _ _ own x far c.requires.0 (rw (near_end.0, near_end.1) at (leb-true _ _ here)) (rw (far_end.0, far_end.1, cap) at (leb-true _ _ there)),
    )
