-- `sum_of_shares` is the sum of the list, and so over its places; 64 shares of at most a million fit.
use mathlib.Core.Path.{◌≡◌, ◌∙◌}
use Prim.Native.Nat.{◌<◌}
use lib.ListN.{length, get_or}
use native.Mathlib.Omega.{arith}
use Rattle.std.proofs.Common.{rules}
use Rattle.std.specs.List.{sum}
use Rattle.laws.proofs.Sum.{total-within}
use Rattle.response.proofs.Listed.{sum-listed}
use Rattle.response.proofs.sum_of_shares.Goals as goal

pub sum-requires-clause-fits : goal.sum-requires-clause-fits
sum-requires-clause-fits c =
    let shares = c.args.taken.now in
    let small = total-within (λ i. get_or shares i 0) 1_000_000 (length shares) c.requires.1 in
    let fits : sum shares < 4_294_967_296 = omega (arith, c.requires.0, sum-listed shares) in
    search rules

pub returns : goal.returns
returns c = let whole : c.sum.result ≡ sum c.args.taken.now = search rules in whole ∙ sum-listed c.args.taken.now
