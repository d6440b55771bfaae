-- The sum of a list is the sum over its places: by induction on how many places are summed.
use mathlib.Core.Path.{◌≡◌, refl, sym, ◌∙◌, ap}
use mathlib.Core.List.{List}
use Prim.Native.Nat.{ℕ, zero, suc, ◌+◌, ◌≤◌}
use native.Mathlib.Nat.{le_refl}
use native.Mathlib.Omega.{arith}
use native.Mathlib.Numerals.{add-one}
use lib.ListN.{length, get_or, take}
use lib.Seq.{take_all}
use Rattle.std.specs.List.{sum}
use Rattle.std.proofs.lemmas.List.Sums.{sum_by_more}
use Rattle.laws.specs.Sum.{total}

front_sum : (l : List ℕ) (n : ℕ) → n ≤ length l → sum (take n l) ≡ total (λ i. get_or l i 0) n
unfolding total
front_sum l zero within = refl
front_sum l (suc n) within =
    let more = sum_by_more (λ x. x) l n 0 (omega arith) in
    let before = front_sum l n (omega arith) in
    rw add-one at more ∙ ap (λ (x : ℕ). x + get_or l n 0) before

pub sum-listed : (l : List ℕ) → sum l ≡ total (λ i. get_or l i 0) (length l)
sum-listed l = ap sum (sym (take_all (length l) l (le_refl (length l)))) ∙ front_sum l (length l) (le_refl (length l))
