-- A choice by a test, and answers that may be missing.
use Rattle.std.specs.Prelude.{Bool, true, false, ℕ, ◌≤◌, eqb}
use Rattle.std.proofs.Math.Option.{Option, none, some}

-- The first where the test holds, else the second.
abbrev pub pick : {A : Type 0} → Bool → A → A → A
pick true a b = a
pick false a b = b

-- An entry's answer: the refused one where the refusal's number is not 0, else what it worked out.
unfoldable pub unless_refused : {A : Type 0} → ℕ → A → A → A
unless_refused number refused worked = pick (eqb number 0) worked refused

-- The answer, or the other number where there is none.
abbrev pub or_else : Option ℕ → ℕ → ℕ
or_else none other = other
or_else (some x) other = x

-- Whether there is an answer.
abbrev pub is_some : Option ℕ → Bool
is_some none = false
is_some (some x) = true

-- The first answer exists wherever the second does, and is then no larger.
abbrev pub Better : Option ℕ → Option ℕ → Type 0
Better none none = Unit {0}
Better none (some y) = ⊥
Better (some x) none = Unit {0}
Better (some x) (some y) = x ≤ y
