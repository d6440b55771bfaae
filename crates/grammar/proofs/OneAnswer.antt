-- Two results that the contract of an entry allows are equal, and so are two final contents of lent space: the contract is an equation.
use mathlib.Core.Path.{◌≡◌}
use mathlib.Core.List.{List}
use Prim.Native.Nat.{ℕ}
use lib.ListN.{length}
use Rattle.laws.proofs.Choice.{one_answer}
use Rattle.grammar.specs.declared.Read.{Read}
use Rattle.grammar.specs.declared.Written.{Written}
use Rattle.grammar.specs.Sheets.{read_sheet, words_after, write_sheet, bytes_after}

-- `read_sheet`.
pub read_unique : (bytes words : List ℕ) (first second : Read) → first ≡ read_sheet bytes (length words) → second ≡ read_sheet bytes (length words)
    → first ≡ second
read_unique bytes words first second = one_answer

pub read_words_unique : (bytes words first second : List ℕ) → first ≡ words_after bytes words → second ≡ words_after bytes words → first ≡ second
read_words_unique bytes words first second = one_answer

-- `write_sheet`.
pub write_unique : (words : List ℕ) (processors : ℕ) (out : List ℕ) (first second : Written) → first ≡ write_sheet words processors (length out)
    → second ≡ write_sheet words processors (length out) → first ≡ second
write_unique words processors out first second = one_answer

pub written_bytes_unique : (words : List ℕ) (processors : ℕ) (out first second : List ℕ) → first ≡ bytes_after words processors out
    → second ≡ bytes_after words processors out → first ≡ second
written_bytes_unique words processors out first second = one_answer
