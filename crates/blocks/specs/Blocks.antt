-- What is asked of whatever writes blocks, and what is known of it.
use Rattle.std.specs.Prelude.{◌≡◌, List, ℕ, ◌<◌, length}
use Rattle.std.specs.Borrow.{MutBor}

-- It may be asked for the block at each place below a count, to be written into a part of one length.
abbrev pub MayWrite : (ℕ → MutBor (List ℕ) → Type 0) → ℕ → ℕ → Type 0
MayWrite pre size count = (place : ℕ) (part : MutBor (List ℕ)) → place < count → length part.now ≡ size → pre place part

-- What it writes there is that place's block.
abbrev pub Writes : (ℕ → MutBor (List ℕ) → Unit {0} → MutBor (List ℕ) → Type 0) → ℕ → ℕ → (ℕ → List ℕ) → Type 0
Writes post size count block = (place : ℕ) (part after : MutBor (List ℕ)) → place < count → length part.now ≡ size → post place part tt after → after.now ≡ block place
