-- `rows::inner::row_allowed_at` meets its contract: the three words are the row's, and a period of 0 is not allowed.
use mathlib.Core.Path.{◌≡◌, refl, sym}
use mathlib.Core.Bool.{Bool, true, false}
use Prim.Native.Nat.{ℕ}
use native.Mathlib.Omega.{arith}
use lib.ListN.{get_or-eq_default}
use Rattle.model.specs.Sheet.{triples, row_allowed, row_allowed_at}
use Rattle.model.proofs.Sheet.{allowed_sized}
use Rattle.rows.specs.Words.{sheet_of}
use Rattle.rows.proofs.inner.row_allowed_at.Goals as goal

-- No row with a period of 0 has its sizes.
no-period : (c d t : ℕ) → t ≡ 0 → false ≡ row_allowed c d t
no-period c d t none = decided (row_allowed c d t) refl
  where
    decided : (b : Bool) → row_allowed c d t ≡ b → false ≡ row_allowed c d t
    decided true allowed = let sized = allowed_sized c d t allowed in absurd (omega (arith, sized.positive, sized.by_deadline, sized.within_period, none))
    decided false refused = sym refused

pub returns-then-words-last : goal.returns-then-words-last
unfolding row_allowed_at sheet_of triples
returns-then-words-last c = no-period _ _ _ (get_or-eq_default c.args.words.now 0 c.if-words-last.true)

pub returns : goal.returns
unfolding row_allowed_at sheet_of triples
returns c = c.row_allowed.ensures
