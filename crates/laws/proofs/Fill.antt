-- Lists filled place by place and block by block hold what was put there. By induction on how many were put.
use mathlib.Core.Path.{◌≡◌, refl, sym, ◌∙◌, ap, ap₂}
use mathlib.Core.Bool.{true}
use mathlib.Core.List.{List, [], ◌∷◌, ◌++◌, append_assoc, append-nil}
use mathlib.Core.Logic.{⊎_elim}
use Prim.Native.Nat.{ℕ, zero, suc, ◌+◌, ◌*◌, ◌-◌, ◌≤◌, ◌<◌}
use native.Mathlib.Nat.{eq-or-lt_of_le, le_of_suc-le-suc, le_step, le_antisymm, add-zero, lt-suc_self, suc-mul, zero-mul, mul-le-mul_right}
use native.Mathlib.Numerals.{add-one}
use native.Mathlib.Omega.{arith}
use borrow.Author.Tests.{eqb-true, eq-eqb}
use lib.Dec.{eqb}
use native.Mathlib.Decide.{ℕ_discrete}
use lib.ListN.{length, get_or, take, drop, set, length-set, length-append, length-drop, drop_of_length-le, get_or-append}
use lib.Seq.{get_or-append-add, ext_get_or, get_or-set_same, get_or-set_other, drop-length, drop-cons, set_at, take_all, take_at, drop_at, take-append-le, drop-append-le, drop-drop, get_or_at, get_or-take, get_or-drop, append_snoc}
use Rattle.laws.proofs.Choice.{never_both, not-refused, is_refused, and_left, and_right}
use Rattle.laws.specs.Sum.{total, unless}
use Rattle.laws.proofs.Order.{below_or_from}
use Rattle.laws.proofs.Sum.{total_tight, unless_here, unless_other}
use Rattle.laws.specs.Fill.{listed, joined, same, Below, at_front}

-- As many as were listed.
pub listed-length : (f : ℕ → ℕ) (n : ℕ) → length (listed f n) ≡ n
unfolding listed
listed-length f zero = refl
listed-length f (suc n) = omega (arith, length-append (listed f n) (f n ∷ []), listed-length f n)

-- At each place what was listed there.
pub listed_at : (f : ℕ → ℕ) (n i : ℕ) → i < n → get_or (listed f n) i 0 ≡ f i
unfolding listed
listed_at f zero i h = absurd (omega arith)
listed_at f (suc n) i h =
    ⊎_elim (λ (last : i ≡ n). rw last (get_or_at (listed f n) (f n) [] 0 n (listed-length f n)))
    (λ (before : i < n). get_or-append (listed f n) (f n ∷ []) 0 i (rw listed-length before) ∙ listed_at f n i before)
    (eq-or-lt_of_le (le_of_suc-le-suc h))

-- Whatever stands behind them.
pub listed_front : (f : ℕ → ℕ) (n i : ℕ) (now rest : List ℕ) → now ≡ listed f n ++ rest → i < n → get_or now i 0 ≡ f i
listed_front f n i now rest filled h =
    ap (λ (l : List ℕ). get_or l i 0) filled ∙ get_or-append (listed f n) rest 0 i (rw listed-length h) ∙ listed_at f n i h

-- Two listings are the same where each place is.
pub listed_same : (f g : ℕ → ℕ) (n : ℕ) → ((i : ℕ) → i < n → f i ≡ g i) → listed f n ≡ listed g n
unfolding listed
listed_same f g zero each = refl
listed_same f g (suc n) each =
    ap₂ (λ (l : List ℕ) (x : ℕ). l ++ (x ∷ [])) (listed_same f g n (λ i h. each i (le_step h))) (each n (lt-suc_self n))

-- Storing the next value behind those listed lists one more.
pub listed_fill : (f : ℕ → ℕ) (i : ℕ) (l : List ℕ) → i < length l → set (listed f i ++ drop i l) i (f i) ≡ listed f (i + 1) ++ drop (i + 1) l
unfolding listed
listed_fill f i l h =
    rw (add-one, drop-cons l i 0 h)
    (set_at (listed f i) (get_or l i 0) (drop (suc i) l) (f i) i (listed-length f i) ∙ sym (append_snoc (listed f i) (f i) (drop (suc i) l)))

-- The same as a loop meets it: a list that holds those listed and then what stood there, and the value stored.
pub listed_more : (f : ℕ → ℕ) (i : ℕ) (before now : List ℕ) (value : ℕ) → i < length before → now ≡ listed f i ++ drop i before → value ≡ f i
    → set now i value ≡ listed f (i + 1) ++ drop (i + 1) before
listed_more f i before now value inside filled stored = rw (filled, stored) (listed_fill f i before inside)

-- At first nothing is listed, and at last nothing else is left.
pub listed-none : (f : ℕ → ℕ) (before : List ℕ) → before ≡ listed f 0 ++ drop 0 before
unfolding listed
listed-none f before = refl

pub listed_all : (f : ℕ → ℕ) (n : ℕ) (before now : List ℕ) → length before ≡ n → now ≡ listed f n ++ drop n before → now ≡ listed f n
listed_all f n before now size filled =
    filled ∙ rw (← size, drop-length before) (append-nil (listed f (length before)))

-- What stands where the next value goes is what stood there before.
pub listed_next : (f : ℕ → ℕ) (i : ℕ) (before now : List ℕ) → now ≡ listed f i ++ drop i before → get_or now i 0 ≡ get_or before i 0
listed_next f i before now filled =
    ap (λ (l : List ℕ). get_or l i 0) filled
    ∙ behind (listed f i) (drop i before) i (listed-length f i)
    ∙ get_or-drop i before 0 0
    ∙ ap (λ (k : ℕ). get_or before k 0) (add-zero i)
  where
    behind : (front rest : List ℕ) (i : ℕ) → length front ≡ i → get_or (front ++ rest) i 0 ≡ get_or rest 0 0
    behind front rest i size = ap (λ (k : ℕ). get_or (front ++ rest) k 0) (sym size ∙ sym (add-zero (length front))) ∙ get_or-append-add front rest 0 0

-- With 0 stored at a place, it is what was listed at every other place.
pub listed-unless : (f : ℕ → ℕ) (n k : ℕ) → k < n → set (listed f n) k 0 ≡ listed (unless k f) n
listed-unless f n k inside =
    ext_get_or 0 (set (listed f n) k 0) (listed (unless k f) n)
    (length-set (listed f n) k 0 ∙ listed-length f n ∙ sym (listed-length (unless k f) n))
    (λ i h. let there : i < n = rw (length-set, listed-length) at h in rw (listed_at (unless k f) n i there) (at_place i there (ℕ_discrete i k)))
  where
    at_place : (i : ℕ) → i < n → Dec (i ≡ k) → get_or (set (listed f n) k 0) i 0 ≡ unless k f i
    at_place i there (yes here) =
        rw (here, unless_here k f) (get_or-set_same (listed f n) k 0 0 (rw listed-length inside))
    at_place i there (no elsewhere) =
        rw (unless_other k f i elsewhere) (get_or-set_other (listed f n) k i 0 0 elsewhere ∙ listed_at f n i there)

-- A list is the listing of what stands at its places.
pub listed_back : (l : List ℕ) (n : ℕ) → length l ≡ n → listed (λ i. get_or l i 0) n ≡ l
listed_back l n size =
    ext_get_or 0 (listed (λ i. get_or l i 0) n) l (listed-length (λ i. get_or l i 0) n ∙ sym size)
    (λ i h. listed_at (λ i. get_or l i 0) n i (rw listed-length at h))

-- A block put behind a front, over whatever stood there: the front has grown by it, and what lies behind is as it was.
pub put_block : (front block l : List ℕ) (a k : ℕ) → length front ≡ a → length block ≡ k
    → take a (front ++ drop a l) ++ (block ++ drop k (drop a (front ++ drop a l))) ≡ (front ++ block) ++ drop (a + k) l
put_block front block l a k front_size block_size =
    rw (take_at front (drop a l) a front_size, drop_at front (drop a l) a front_size, drop-drop k a l)
    (sym (append_assoc front block (drop (a + k) l)))

-- A front put over what stood there leaves the length as it was.
pub front_kept : (front l : List ℕ) (a : ℕ) → length front ≡ a → a ≤ length l → length (front ++ drop a l) ≡ length l
front_kept front l a size room = length-append front (drop a l) ∙ rw (size, length-drop a l) (omega arith)

-- A front, and a block that fills the rest behind it, are the whole.
pub front_filled : (front block l : List ℕ) (a k : ℕ) → length front ≡ a → length block ≡ k → length l ≡ a + k
    → let whole = front ++ drop a l in
    take a whole ++ (block ++ drop (length whole - a) (drop a whole)) ≡ front ++ block
front_filled front block l a k front_size block_size full =
    let rest : length (front ++ drop a l) - a ≡ k = rw (front_kept front l a front_size (omega arith)) (omega arith) in
    rw rest
    (put_block front block l a k front_size block_size
    ∙ rw (drop_of_length-le l {i = a + k} (omega arith)) (append-nil (front ++ block)))

-- Blocks of one size: as many bytes as blocks times the size.
pub joined_length : (f : ℕ → List ℕ) (k n : ℕ) → ((j : ℕ) → j < n → length (f j) ≡ k) → length (joined f n) ≡ n * k
unfolding joined
joined_length f k zero size = sym (zero-mul k)
joined_length f k (suc n) size =
    omega (arith, length-append (joined f n) (f n), joined_length f k n (λ j h. size j (le_step h)), size n (lt-suc_self n), suc-mul n k)

-- Each block stands where its number says, and comes back whole.
pub joined_block : (f : ℕ → List ℕ) (k n j : ℕ) → ((i : ℕ) → i < n → length (f i) ≡ k) → j < n
    → take k (drop (j * k) (joined f n)) ≡ f j
unfolding joined
joined_block f k zero j size h = absurd (omega arith)
joined_block f k (suc n) j size h =
    let sizes : (i : ℕ) → i < n → length (f i) ≡ k = λ i h. size i (le_step h) in
    let whole : length (joined f n) ≡ n * k = joined_length f k n sizes in
    ⊎_elim
    (λ (last : j ≡ n). rw (last, drop_at (joined f n) (f n) (n * k) whole) (take_all k (f n) (omega (arith, size n (lt-suc_self n)))))
    (λ (before : j < n).
    let room : suc j * k ≤ n * k = mul-le-mul_right k before in
    let front : j * k + k ≤ length (joined f n) = omega (arith, suc-mul j k) in
    let left : k ≤ length (drop (j * k) (joined f n)) = omega (arith, length-drop (j * k) (joined f n)) in
    rw (drop-append-le (j * k) (joined f n) (f n) (omega arith), take-append-le k (drop (j * k) (joined f n)) (f n) left)
    (joined_block f k n j sizes before))
    (eq-or-lt_of_le (le_of_suc-le-suc h))

-- Place i of block j is place j × k + i of the whole.
pub joined_at : (f : ℕ → List ℕ) (k n j i : ℕ) → ((i : ℕ) → i < n → length (f i) ≡ k) → j < n → i < k
    → get_or (joined f n) (j * k + i) 0 ≡ get_or (f j) i 0
joined_at f k n j i size h inside =
    sym (get_or-drop (j * k) (joined f n) i 0)
    ∙ sym (get_or-take k (drop (j * k) (joined f n)) i 0 inside)
    ∙ ap (λ (l : List ℕ). get_or l i 0) (joined_block f k n j size h)

-- Equal by the test is equal, and a list is equal to itself.
pub same_true : (a b : List ℕ) → same a b ≡ true → a ≡ b
unfolding same
same_true [] [] h = refl
same_true [] (y ∷ ys) h = absurd (never_both h refl)
same_true (x ∷ xs) [] h = absurd (never_both h refl)
same_true (x ∷ xs) (y ∷ ys) h = ap₂ ◌∷◌ (eqb-true x y (and_left (eqb x y) (same xs ys) h)) (same_true xs ys (and_right (eqb x y) (same xs ys) h))

pub same_self : (a : List ℕ) → same a a ≡ true
unfolding same
same_self [] = refl
same_self (x ∷ xs) = rw (eq-eqb x x refl) (same_self xs)

-- Lists of one length, each below the other, are the same.
pub below_antisymm : (n : ℕ) (Q R : List ℕ) → length Q ≡ n → length R ≡ n → Below n Q R → Below n R Q → Q ≡ R
below_antisymm n Q R q r low high =
    ext_get_or 0 Q R (q ∙ sym r) (λ i h. let inside : i < n = omega arith in le_antisymm (low i inside) (high i inside))

-- A list below another of its length, and not the same, has the smaller sum.
pub below_lowers : (n : ℕ) (Q R : List ℕ) → length Q ≡ n → length R ≡ n → Below n Q R → (Q ≡ R → ⊥)
    → total (λ i. get_or Q i 0) n < total (λ i. get_or R i 0) n
below_lowers n Q R q r low differ =
    ⊎_elim (λ (less : total (λ i. get_or Q i 0) n < total (λ i. get_or R i 0) n). less)
    (λ (whole : total (λ i. get_or R i 0) n ≤ total (λ i. get_or Q i 0) n).
    absurd
    (differ
    (ext_get_or 0 Q R (q ∙ sym r)
    (λ i h. total_tight (λ i. get_or Q i 0) (λ i. get_or R i 0) n low whole i (rw q at h)))))
    (below_or_from (total (λ i. get_or Q i 0) n) (total (λ i. get_or R i 0) n))

-- One block more.
joined_more : (f : ℕ → List ℕ) (n : ℕ) → joined f (n + 1) ≡ joined f n ++ f n
unfolding joined
joined_more f n = rw add-one

-- A block put behind those joined so far, in the part that was lent for it.
pub block_joined : (f : ℕ → List ℕ) (i at size end next : ℕ) (block out l : List ℕ) → length (joined f i) ≡ at → length (f i) ≡ size
    → end ≡ at + size → next ≡ at + size → block ≡ f i → out ≡ joined f i ++ drop at l
    → take at out ++ (block ++ drop (end - at) (drop at out)) ≡ joined f (i + 1) ++ drop next l
block_joined f i at size end next block out l front_size block_size is_end is_next is_block stands =
    let part : end - at ≡ size = omega arith in
    rw (stands, is_block, part, joined_more f i, is_next)
    (put_block (joined f i) (f i) l at size front_size block_size)

-- With blocks in front of it the whole has the length that it had.
pub blocks_kept : (f : ℕ → List ℕ) (i at : ℕ) (out l : List ℕ) → length (joined f i) ≡ at → at ≤ length l
    → out ≡ joined f i ++ drop at l → length out ≡ length l
blocks_kept f i at out l front_size room stands =
    ap length stands ∙ length-append (joined f i) (drop at l) ∙ rw (front_size, length-drop at l) (omega arith)

-- Where the blocks fill the whole nothing is left behind them.
pub blocks_fill : (f : ℕ → List ℕ) (i at : ℕ) (out l : List ℕ) → length l ≡ at → out ≡ joined f i ++ drop at l → out ≡ joined f i
blocks_fill f i at out l full stands = stands ∙ rw (← full, drop-length l) (append-nil (joined f i))

-- A refusal leaves lent space alone, and without one the answer stands in front.
pub front_left : (number : ℕ) (answer space : List ℕ) → (number ≡ 0 → ⊥) → space ≡ at_front number answer space
unfolding at_front
front_left number answer space one_holds = sym (is_refused number _ _ one_holds)

pub front_put : (number : ℕ) (answer space : List ℕ) → number ≡ 0 → answer ++ drop (length answer) space ≡ at_front number answer space
unfolding at_front
front_put number answer space none_holds = sym (not-refused number _ _ none_holds)
