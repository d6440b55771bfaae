-- The checks in number order, taken apart: a refusal with number 0 failed every test, and where every test fails there is none.
use mathlib.Core.Path.{◌≡◌, refl, sym, ◌∙◌, ap}
use mathlib.Core.Bool.{Bool, true, false, not}
use mathlib.Core.List.{List}
use mathlib.Core.Option.{Option, none, some}
use Prim.Native.Nat.{ℕ, ◌%◌, ◌≤◌, ◌<◌}
use native.Mathlib.Omega.{arith}
use native.Mathlib.Decide.{ℕ_discrete}
use borrow.Author.Tests.{eq-eqb, ne_eqb, eqb-true, eqb-false, lt-ltb, le-ltb, ltb-false, not-false}
use lib.Dec.{eqb, ltb}
use lib.ListN.{length}
use Rattle.laws.specs.Choice.{pick, unless_refused}
use Rattle.laws.specs.Search.{Nothing}
use Rattle.laws.proofs.Choice.{pick_yes, pick_no, not-refused, is_refused}
use Rattle.laws.proofs.Search.{least_means, least-fixed}
use Rattle.model.specs.Sheet.{Sheet, triples, row_allowed_at, processors_allowed, Allowed}
use Rattle.model.proofs.Sheet.{count_allowed, some_rows, few_rows}
use Rattle.refusals.specs.Refusals.{Refusal}
use Rattle.rows.specs.Words.{sheet_of, outside, first_outside}
use Rattle.rows.specs.Checks.{count_refusal, processors_refusal, method_refusal, room_refusal, first_of, rows_refusal, sheet_refusal, laid_refusal, not_whole, Accepted}
use Rattle.refusals.specs.Refusals.{refused, not_refused}
use Rattle.rows.specs.Layouts.{Lent, shape_refusal}
use Rattle.rows.specs.Inner.{Laid}
use Rattle.rows.proofs.Fold.{first_of_zero, next_decides, first_decides}

-- A list without a word left over is three words for each row of its sheet, and the other way round.
pub words_laid : (words : List ℕ) → not_whole words ≡ false → Laid words
unfolding not_whole sheet_of triples
words_laid words passed =
    let no_rest : length words % 3 ≡ 0 = eqb-true (length words % 3) 0 (not-false _ passed) in
    record { whole = omega arith }

pub laid_words : (words : List ℕ) → Laid words → not_whole words ≡ false
unfolding not_whole sheet_of triples
laid_words words laid = ap not (eq-eqb (length words % 3) 0 (omega (arith, laid.whole)))

-- The count is not refused exactly from 1 to 64.
pub count_within : (n : ℕ) → count_refusal n ≡ 0 → (1 ≤ n) × (n ≤ 64)
unfolding count_refusal
count_within n zero = split (eqb n 0) refl (ltb 64 n) refl zero
  where
    split : (empty : Bool) → eqb n 0 ≡ empty → (many : Bool) → ltb 64 n ≡ many → ◌≡◌ {A = ℕ} (pick empty 2 (pick many 3 0)) 0 → (1 ≤ n) × (n ≤ 64)
    split true is_empty many is_many zero = absurd (omega arith)
    split false not_empty true is_many zero = absurd (omega arith)
    split false not_empty false not_many zero =
        let not_none : n ≡ 0 → ⊥ = eqb-false n 0 not_empty in
        (omega arith, ltb-false 64 n not_many)

pub within_count : (n : ℕ) → 1 ≤ n → n ≤ 64 → count_refusal n ≡ 0
unfolding count_refusal
within_count n from_one few = pick_no _ _ _ (ne_eqb n 0 (λ none_there. omega arith)) ∙ pick_no _ _ _ (le-ltb 64 n few)

-- Where no row is found outside, each row has its sizes.
pub none-outside : (s : Sheet) → first_outside s ≡ none → (k : ℕ) → k < s.rows → row_allowed_at s k ≡ true
unfolding first_outside outside
none-outside s nowhere k here =
    let nothing : Nothing (outside s) 0 s.rows = rw nowhere at (least_means (outside s) 0 s.rows) in
    not-false (row_allowed_at s k) (nothing k (omega arith) (omega arith))

-- Where each row has its sizes, none is found outside.
pub each_inside : (s : Sheet) → ((k : ℕ) → k < s.rows → row_allowed_at s k ≡ true) → first_outside s ≡ none
unfolding first_outside outside
each_inside s each = least-fixed (outside s) 0 s.rows none (λ k from here. ap not (each k (omega arith)))

-- Where the row count and the entry's own checks pass, the rows decide.
rows_decide : (s : Sheet) (own : ℕ) → Allowed s → own ≡ 0 → sheet_refusal s own ≡ rows_refusal (first_outside s)
unfolding sheet_refusal
rows_decide s own sizes none_held =
    not-refused _ _ _ (next_decides _ own (within_count s.rows (some_rows s sizes) (few_rows s sizes)) ∙ none_held)

-- Over a sheet number 0 says that its sizes are allowed and that none of the entry's own checks held.
sheet_accepted : (s : Sheet) (own : ℕ) → (sheet_refusal s own).number ≡ 0 → Allowed s × (own ≡ 0)
unfolding sheet_refusal rows_refusal
sheet_accepted s own zero = decided (ℕ_discrete (first_of (count_refusal s.rows) own) 0)
  where
    by_row : (row : Option ℕ) → (rows_refusal row).number ≡ 0 → row ≡ none
    by_row none none-outside = refl
    by_row (some row) eight = absurd (omega arith)

    decided : Dec (first_of (count_refusal s.rows) own ≡ 0) → Allowed s × (own ≡ 0)
    decided (yes passed) =
        let both = first_of_zero (count_refusal s.rows) own passed in
        let count = count_within s.rows both.0 in
        let inside = by_row (first_outside s) (rw (not-refused _ (refused _ 0) (rows_refusal (first_outside s)) passed) at zero) in
        (record { count = count_allowed s.rows count.0 count.1; each = none-outside s inside }, both.1)
    decided (no held) =
        absurd (held (rw (is_refused _ (refused _ 0) (rows_refusal (first_outside s)) held) at zero))

-- A refusal with number 0: layout and sizes are as they should be, and none of the entry's own checks held.
pub accepted : (broken : Bool) (s : Sheet) (own : ℕ) → (laid_refusal broken s own).number ≡ 0 → Accepted broken s own
unfolding laid_refusal
accepted true s own zero = absurd (omega arith)
accepted false s own zero =
    let facts = sheet_accepted s own zero in
    record { laid = refl; sizes = facts.0; none_held = facts.1 }

-- And where that is so there is no refusal: number and place 0.
pub accepted-passes : (broken : Bool) (s : Sheet) (own : ℕ) → Accepted broken s own → laid_refusal broken s own ≡ not_refused
unfolding laid_refusal rows_refusal
accepted-passes broken s own facts =
    pick_no _ _ _ facts.laid
    ∙ rows_decide s own facts.sizes facts.none_held
    ∙ ap rows_refusal (each_inside s facts.sizes.each)

-- With number 0 the place is 0 too.
pub number_only : (broken : Bool) (s : Sheet) (own : ℕ) → (laid_refusal broken s own).number ≡ 0 → laid_refusal broken s own ≡ not_refused
number_only broken s own zero = accepted-passes broken s own (accepted broken s own zero)

-- Rows with nothing wrong are refused exactly by the entry's own checks.
pub own_decides : (broken : Bool) (s : Sheet) (own : ℕ) → broken ≡ false → Allowed s → laid_refusal broken s own ≡ refused own 0
unfolding laid_refusal sheet_refusal
own_decides broken s own laid sizes = decided (ℕ_discrete own 0)
  where
    decided : Dec (own ≡ 0) → laid_refusal broken s own ≡ refused own 0
    decided (yes zero) =
        accepted-passes broken s own (record { laid = laid; sizes = sizes; none_held = zero })
        ∙ ap (λ (n : ℕ). refused n 0) (sym zero)
    decided (no one_holds) =
        let number = next_decides (count_refusal s.rows) own (within_count s.rows (some_rows s sizes) (few_rows s sizes)) in
        pick_no _ _ _ laid
        ∙ is_refused _ _ _ (λ zero. one_holds (sym number ∙ zero))
        ∙ ap (λ (n : ℕ). refused n 0) number

-- A refusal's number is 0, 2, 3, 8 or that of the entry's own checks: what holds of these holds of it.
pub each_number : (P : ℕ → Type 0) (broken : Bool) (s : Sheet) (own : ℕ) → P 0 → P 2 → P 3 → P own → P 8 → P (laid_refusal broken s own).number
unfolding laid_refusal sheet_refusal unless_refused first_of count_refusal rows_refusal
each_number P broken s own zero two three by_own eight = split broken (eqb s.rows 0) (ltb 64 s.rows)
  where
    sized : (clear : Bool) (row : Option ℕ) → P (pick clear (rows_refusal row) (refused own 0)).number
    sized false row = by_own
    sized true none = zero
    sized true (some row) = eight

    split : (broken empty many : Bool)
        → let count : ℕ = pick empty 2 (pick many 3 0) in
        let number : ℕ = pick (eqb count 0) own count in
        P (pick broken (refused 2 0) (pick (eqb number 0) (rows_refusal (first_outside s)) (refused number 0))).number
    split true empty many = two
    split false true many = two
    split false false true = three
    split false false false = sized (eqb own 0) (first_outside s)

-- More than 64 rows are refused whatever comes after.
pub count_refused : (broken : Bool) (s : Sheet) (own : ℕ) → broken ≡ false → 64 < s.rows → laid_refusal broken s own ≡ refused 3 0
unfolding laid_refusal sheet_refusal unless_refused first_of count_refusal
count_refused broken s own laid many =
    pick_no _ _ _ laid ∙ rw (ne_eqb s.rows 0 (λ none_there. omega arith), lt-ltb 64 s.rows many)

-- What gives 0 and not a refusal's number is allowed.
pub allowed_by_zero : (allowed : Bool) (number : ℕ) → (number ≡ 0 → ⊥) → pick allowed 0 number ≡ 0 → allowed ≡ true
allowed_by_zero true number numbered zero = refl
allowed_by_zero false number numbered zero = absurd (numbered zero)

-- And a check that gives 0 and not its number does not hold.
not_held : (holds : Bool) (number : ℕ) → (number ≡ 0 → ⊥) → pick holds number 0 ≡ 0 → holds ≡ false
not_held true number numbered zero = absurd (numbered zero)
not_held false number numbered zero = refl

-- The processors are not refused exactly if they are allowed.
pub processors_allowed_lem : (m : ℕ) → processors_refusal m ≡ 0 → processors_allowed m ≡ true
unfolding processors_refusal
processors_allowed_lem m zero = allowed_by_zero (processors_allowed m) 4 (λ four. omega arith) zero

pub allowed_processors : (m : ℕ) → processors_allowed m ≡ true → processors_refusal m ≡ 0
unfolding processors_refusal
allowed_processors m allowed = pick_yes _ _ _ allowed

-- The space is not refused exactly if the answer fits.
pub room_enough : (room need : ℕ) → room_refusal room need ≡ 0 → need ≤ room
unfolding room_refusal
room_enough room need zero = ltb-false room need (not_held (ltb room need) 7 (λ seven. omega arith) zero)

pub enough_room : (room need : ℕ) → need ≤ room → room_refusal room need ≡ 0
unfolding room_refusal
enough_room room need enough = pick_no _ _ _ (le-ltb room need enough)

-- The method is not refused exactly if it is 0 or 1.
pub method_within : (method : ℕ) → method_refusal method ≡ 0 → method ≤ 1
unfolding method_refusal
method_within method zero = ltb-false 1 method (not_held (ltb 1 method) 5 (λ five. omega arith) zero)

pub within_method : (method : ℕ) → method ≤ 1 → method_refusal method ≡ 0
unfolding method_refusal
within_method method small = pick_no _ _ _ (le-ltb 1 method small)

-- The same refusal of rows in whatever layout, told by its number: where a check before the rows' sizes holds, its number; else by the first
-- row outside.
pub by_number : (lent : Lent) (own : ℕ)
    → let number = first_of (shape_refusal lent) own in
    laid_refusal lent.broken lent.sheet own ≡ unless_refused number (refused number 0) (rows_refusal (first_outside lent.sheet))
unfolding laid_refusal sheet_refusal shape_refusal first_of unless_refused
by_number lent own = split lent.broken (count_refusal lent.sheet.rows) (rows_refusal (first_outside lent.sheet))
  where
    split : (broken : Bool) (count : ℕ) (rows : Refusal)
        → let whole = pick (eqb count 0) own count in
        let shape : ℕ = pick broken 2 count in
        let number : ℕ = pick (eqb shape 0) own shape in
        pick broken (refused 2 0) (pick (eqb whole 0) rows (refused whole 0)) ≡ pick (eqb number 0) rows (refused number 0)
    split true count rows = refl
    split false count rows = refl

-- With neither 2 nor 3 the layout is not broken, and there are from 1 to 64 rows.
pub shape_sized : (lent : Lent) → shape_refusal lent ≡ 0 → (lent.broken ≡ false) × (1 ≤ lent.sheet.rows) × (lent.sheet.rows ≤ 64)
unfolding shape_refusal
shape_sized lent zero = split lent.broken zero
  where
    split : (broken : Bool) → pick broken 2 (count_refusal lent.sheet.rows) ≡ 0 → (broken ≡ false) × (1 ≤ lent.sheet.rows) × (lent.sheet.rows ≤ 64)
    split true zero = absurd (omega arith)
    split false zero = let counted = count_within lent.sheet.rows zero in (refl, counted.0, counted.1)

pub shape_passed : (lent : Lent) → shape_refusal lent ≡ 0 → (lent.broken ≡ false) × (lent.sheet.rows ≤ 64)
shape_passed lent zero = let all = shape_sized lent zero in (all.0, all.2)

-- With 2 or 3 that is the refusal, whatever the entry's own checks say.
pub shape_refused : (lent : Lent) (own : ℕ) → (shape_refusal lent ≡ 0 → ⊥) → laid_refusal lent.broken lent.sheet own ≡ refused (shape_refusal lent) 0
shape_refused lent own held =
    let first = first_decides (shape_refusal lent) own held in
    by_number lent own
    ∙ is_refused _ _ _ (λ zero. held (sym first ∙ zero))
    ∙ ap (λ (n : ℕ). refused n 0) first

-- Checks made only where the first ones passed: number 0 at the end says that both passed.
pub both_passed : (first second : Refusal) → (unless_refused first.number first second).number ≡ 0 → (first.number ≡ 0) × (second.number ≡ 0)
unfolding unless_refused
both_passed first second zero = split (eqb first.number 0) refl zero
  where
    split : (b : Bool) → eqb first.number 0 ≡ b → (pick b second first).number ≡ 0 → (first.number ≡ 0) × (second.number ≡ 0)
    split true is_zero zero = (eqb-true first.number 0 is_zero, zero)
    split false not-zero zero = absurd (eqb-false first.number 0 not-zero zero)
