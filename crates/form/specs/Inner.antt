-- What only inner functions and proofs cite: no user need believe it.
use Rattle.std.specs.Prelude.{◌≡◌, List, ℕ}
use Rattle.grammar.specs.declared.Header.{Header}
use Rattle.grammar.specs.Grammar.{processors_written, rows_written}

-- Line one as it was read from the bytes.
pub record LineOne (bytes : List ℕ) (first : Header) : Type 0 where
  pub processors : first.processors ≡ processors_written bytes
  pub rows : first.rows ≡ rows_written bytes
