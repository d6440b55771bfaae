-- What `all` says of the numbers below n is whether a test holds at every place below n: a place that fails it is enough for not.
use Prim.Native.Nat.{ℕ, ◌<◌, zero-le}
use mathlib.Core.Path.{◌≡◌, sym}
use mathlib.Core.Bool.{Bool, true, false}
use native.Mathlib.Nat.{zero-add}
use lib.ListN.{length}
use Rattle.std.specs.Bool.{MatchBool}
use Rattle.std.specs.List.{range_with_len, AllWithin, HoldsAt}
use Rattle.std.proofs.lemmas.List.FromFn.{length-range_with_len, get_or-range_with_len}
use Rattle.laws.specs.Bits.{every}
use Rattle.laws.proofs.Bits.{each_every, every_fails}

pub counted : (f : ℕ → Bool) (n : ℕ) (answer : Bool)
    → MatchBool answer (AllWithin (λ k. f k ≡ true) (range_with_len 0 n) 0 (length (range_with_len 0 n)))
    ((k : ℕ) × (k < length (range_with_len 0 n)) × HoldsAt (λ k. f k ≡ false) (range_with_len 0 n) k)
    → answer ≡ every f n
counted f n true each =
    sym (each_every f n (λ k h. rw (get_or-range_with_len 0 n k 0 h, zero-add k) at (each k 0 zero-le (rw length-range_with_len h))))
counted f n false one =
    let h : one.0 < n = rw length-range_with_len at one.1 in
    sym (every_fails f n one.0 h (rw (get_or-range_with_len 0 n one.0 0 h, zero-add one.0) at (one.2 0)))
