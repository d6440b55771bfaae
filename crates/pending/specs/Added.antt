-- What the rows kept add and what they exclude, as contracts say it of them: no user need believe it.
use Rattle.std.specs.Prelude.{List, ℕ, ◌+◌, ◌*◌}
use Rattle.model.specs.Sheet.{Sheet}
use Rattle.refinement.specs.Inner.Kept.{kept_sum, Met, Excluded}
use Rattle.pending.specs.declared.kept.Pending.{Pending}

-- The most that what is settled and the rows kept may add.
abbrev pub most : Pending → ℕ
most pending = pending.settled + pending.left * 1_000_000

-- What is settled, and what the rows kept add at X.
abbrev pub added : Pending → ℕ → ℕ → ℕ
added pending x cap = kept_sum pending.others pending.left pending.settled x cap

-- From X on that is what all rows but one add to the right side of the RTA equation.
abbrev pub MetBy : Sheet → List ℕ → Pending → ℕ → ℕ → Type 0
MetBy s R pending row x = Met s R pending.others row pending.left pending.settled x

-- No number from x to below next solves the equation.
abbrev pub ExcludedBy : Pending → ℕ → ℕ → ℕ → ℕ → Type 0
ExcludedBy pending m own x next = Excluded pending.others pending.left pending.settled m own x next
