-- The answers as the code gives them: a refusal is told as the definitions say it, and nothing is lost.
use mathlib.Core.Path.{◌≡◌, sym, ap, ap₂}
use Prim.Native.Nat.{ℕ}
use Rattle.std.specs.Prelude.{Result, Ok, Err}
use Rattle.refusals.specs.declared.Refusal.{Refusal as Why}
use Rattle.refusals.specs.Refusals.{refused}
use Rattle.refusals.specs.Told.{told}
use Rattle.rows.proofs.InOrder.{numbered, told_fixed}
use Rattle.grammar.specs.declared.Header.{Header}
use Rattle.grammar.specs.declared.Read.{Read}
use Rattle.grammar.specs.declared.Written.{Written}
use Rattle.grammar.specs.Told.{read_said, written_said}

-- Two refusals of one number and place are one.
same_why : (why other : Why) → (told why).number ≡ (told other).number → (told why).place ≡ (told other).place → why ≡ other
same_why why other number place = told_fixed why other (ap₂ refused number place)

pub read_said_fixed : (r q : Result Header Why) → read_said r ≡ read_said q → r ≡ q
read_said_fixed (Ok header) (Ok other) same =
    ap₂ (λ (processors rows : ℕ). Ok (record { processors = processors; rows = rows })) (ap (λ (a : Read). a.processors) same) (ap (λ (a : Read). a.rows) same)
read_said_fixed (Ok header) (Err why) same = absurd (numbered why (sym (ap (λ (a : Read). a.refusal) same)))
read_said_fixed (Err why) (Ok header) same = absurd (numbered why (ap (λ (a : Read). a.refusal) same))
read_said_fixed (Err why) (Err other) same =
    ap Err (same_why why other (ap (λ (a : Read). a.refusal) same) (ap (λ (a : Read). a.place) same))

pub written_said_fixed : (r q : Result ℕ Why) → written_said r ≡ written_said q → r ≡ q
written_said_fixed (Ok length) (Ok other) same = ap Ok (ap (λ (a : Written). a.length) same)
written_said_fixed (Ok length) (Err why) same = absurd (numbered why (sym (ap (λ (a : Written). a.refusal) same)))
written_said_fixed (Err why) (Ok length) same = absurd (numbered why (ap (λ (a : Written). a.refusal) same))
written_said_fixed (Err why) (Err other) same =
    ap Err (same_why why other (ap (λ (a : Written). a.refusal) same) (ap (λ (a : Written). a.place) same))
