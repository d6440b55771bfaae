-- What a refusal says.
use Rattle.std.specs.Prelude.{ℕ}

-- A refusal's number and place; number 0 is no refusal.
pub record Refusal : Type 0 where
  pub number : ℕ
  pub place : ℕ

-- A refusal by its number and place.
abbrev pub refused : ℕ → ℕ → Refusal
refused number place = record { number = number; place = place }

-- Number 0 and place 0: no refusal.
abbrev pub not_refused : Refusal
not_refused = refused 0 0
