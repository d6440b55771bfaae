-- `climb` meets its contract: each image is one value further, and each exit is a law of the climb.
use mathlib.Core.Path.{◌≡◌, sym, ap}
use native.Mathlib.Nat.{le_antisymm}
use native.Mathlib.Omega.{arith}
use Rattle.rows.specs.Words.{found_of}
use Rattle.laws.proofs.Climb.{climbed_found, climbed_past}
use Rattle.climb.proofs.climb.Goals as goal

pub returns-then-value-x : goal.returns-then-value-x
unfolding found_of
returns-then-value-x g c = λ f images.
    let q = c.loop-x in
    let climbed = q.invariant.1 f images in
    let value = images.each q.x _ q.invariant.0 c.loop-x-test.true c.image-value.ensures in
    let own : q.x ≡ f q.x = le_antisymm climbed.rises (rw value at c.if-value-x.true) in
    sym (ap found_of (climbed_found f c.args.first _ q.x climbed own (omega (arith, q.invariant.0, c.loop-x-test.true))))

pub returns : goal.returns
unfolding found_of
returns g c = λ f images.
    let q = c.loop-x in
    sym (ap found_of (climbed_past f c.args.first _ q.x (q.invariant.1 f images) (omega (arith, q.invariant.0, c.loop-x-test.false))))
