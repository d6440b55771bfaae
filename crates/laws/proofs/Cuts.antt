-- Lists cut anywhere: a listing is its pieces one behind the other, and a test that holds along a list holds
-- at each place of it. By induction on the length.
use mathlib.Core.Path.{◌≡◌, refl, sym, ◌∙◌, ap₂}
use mathlib.Core.Bool.{Bool, true, ◌&&◌}
use mathlib.Core.List.{List, [], ◌∷◌, ◌++◌, map, append_assoc, append-nil, map-append}
use Prim.Native.Nat.{ℕ, zero, suc, ◌+◌, ◌*◌, ◌<◌}
use native.Mathlib.Nat.{add-suc, add-zero, suc-add, suc-mul, zero-mul, le_step, lt-suc_self, le_of_suc-le-suc}
use native.Mathlib.Omega.{arith}
use lib.ListN.{length, get_or, length-append, get_or-append}
use lib.Seq.{get_or-append-add}
use Rattle.laws.specs.Fill.{listed, joined}
use Rattle.laws.proofs.Choice.{and_left, and_right}

-- A listing cut in two.
pub listed_cut : (f : ℕ → ℕ) (a b : ℕ) → listed f (a + b) ≡ listed f a ++ listed (λ i. f (a + i)) b
unfolding listed
listed_cut f a zero = rw (add-zero a) (sym (append-nil (listed f a)))
listed_cut f a (suc b) =
    rw (add-suc a b, listed_cut f a b) (append_assoc (listed f a) (listed (λ i. f (a + i)) b) (f (a + b) ∷ []))

-- Blocks that are pieces of one listing are the listing.
pub joined-listed : (f : ℕ → ℕ) (size n : ℕ) → joined (λ k. listed (λ i. f (k * size + i)) size) n ≡ listed f (n * size)
unfolding joined listed
joined-listed f size zero = rw (zero-mul size)
joined-listed f size (suc n) = rw (joined-listed f size n, suc-mul n size) (sym (listed_cut f (n * size) size))

-- Blocks that are the same one by one are the same joined.
pub joined_same : (f g : ℕ → List ℕ) (n : ℕ) → ((k : ℕ) → k < n → f k ≡ g k) → joined f n ≡ joined g n
unfolding joined
joined_same f g zero each = refl
joined_same f g (suc n) each = ap₂ ◌++◌ (joined_same f g n (λ k h. each k (le_step h))) (each n (lt-suc_self n))

-- Two pieces, and blocks, that are the same with each number exchanged are the same so joined.
pub mapped_append : (f : ℕ → ℕ) (front back : List ℕ) → map f front ≡ front → map f back ≡ back → map f (front ++ back) ≡ front ++ back
mapped_append f front back here there = map-append f front back ∙ ap₂ ◌++◌ here there

pub mapped_joined : (f : ℕ → ℕ) (block : ℕ → List ℕ) (n : ℕ) → ((k : ℕ) → map f (block k) ≡ block k) → map f (joined block n) ≡ joined block n
unfolding joined
mapped_joined f block zero each = refl
mapped_joined f block (suc n) each = mapped_append f (joined block n) (block n) (mapped_joined f block n each) (each n)

-- A place of a piece that stands behind a front, with more behind it.
pub get_d_between : (front piece back : List ℕ) (a i : ℕ) → length front ≡ a → i < length piece
    → get_or (front ++ piece ++ back) (a + i) 0 ≡ get_or piece i 0
get_d_between front piece back a i size inside =
    get_or-append (front ++ piece) back 0 (a + i) (rw length-append (omega arith))
    ∙ rw (← size) (get_or-append-add front piece i 0)

-- Whether a test holds of each place of a list and what stands there.
unfoldable pub along : (ℕ → ℕ → Bool) → ℕ → List ℕ → Bool
along test at [] = true
along test at (x ∷ xs) = test at x && along test (suc at) xs

-- Then it holds at each place.
pub along_each : (test : ℕ → ℕ → Bool) (at : ℕ) (l : List ℕ) → along test at l ≡ true
    → (i : ℕ) → i < length l → test (at + i) (get_or l i 0) ≡ true
unfolding along
along_each test at [] all i inside = absurd (omega arith)
along_each test at (x ∷ xs) all zero inside = rw (add-zero at) (and_left (test at x) _ all)
along_each test at (x ∷ xs) all (suc i) inside =
    rw (add-suc at i, ← suc-add at i) (along_each test (suc at) xs (and_right (test at x) _ all) i (le_of_suc-le-suc inside))
