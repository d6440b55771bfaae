-- A sheet taken byte by byte: the state between pieces, and what each byte does to it.
use Rattle.std.specs.Prelude.{Bool, ◌&&◌, List, [], ◌∷◌, ℕ, ◌+◌, ◌*◌, ◌%◌, ◌^◌, eqb, leb, ltb, length, get_or, replicate}
use Rattle.laws.specs.Choice.{pick}
use Rattle.laws.specs.Fill.{listed}
use Rattle.digits.specs.Digits.{digit_value}
use Rattle.grammar.specs.Grammar.{sheet_allows}
use Rattle.grammar.specs.Lines.{word_offset}
use Rattle.grammar.specs.Sheets.{read_refused}
use Rattle.pieces.specs.declared.Reached.{Reached}
use Rattle.pieces.specs.declared.Pieces.{Pieces}

-- The state before the first byte: nothing taken, nothing wrong, nothing read, no answer given.
unfoldable pub fresh : Pieces
fresh =
    record {
      reached = record { taken = 0; wrong = 0; processors = 0; rows = 0 };
      words = replicate 192 0;
      ended = 0;
      answer = read_refused 0 0;
    }

-- The rows that line one announces so far: what its two digits can say, whatever number a caller hands in.
unfoldable pub announced : Reached → ℕ
announced reached = reached.rows % 256

-- A number with the digit of a byte behind it. It is kept in 32 bits, whatever number a caller hands in.
unfoldable pub digit_more : ℕ → ℕ → ℕ
digit_more value byte = value % 2 ^ 27 * 16 + digit_value byte

-- A number that stands in `count` digits from offset `at` on, after one byte more at an offset: with its digit, if it is one of them.
unfoldable pub with_byte : ℕ → ℕ → ℕ → ℕ → ℕ → ℕ
with_byte at count offset byte value = pick (leb at offset && ltb offset (at + count)) (digit_more value byte) value

-- How far the sheet has been read after a right byte more, and after a wrong one.
unfoldable pub reached_with : Reached → ℕ → Reached
reached_with reached byte =
    record {
      taken = reached.taken + 1;
      wrong = reached.wrong;
      processors = with_byte 2 2 reached.taken byte reached.processors;
      rows = with_byte 4 2 reached.taken byte reached.rows;
    }

unfoldable pub reached_wrong : Reached → Reached
reached_wrong reached = record { taken = reached.taken; wrong = 1; processors = reached.processors; rows = reached.rows }

-- The words of the rows after a right byte more at an offset.
unfoldable pub words_with : ℕ → ℕ → List ℕ → List ℕ
words_with offset byte words = listed (λ w. with_byte (word_offset w) 6 offset byte (get_or words w 0)) (length words)

-- The state with another place reached and other words.
abbrev pub moved_on : Pieces → Reached → List ℕ → Pieces
moved_on s reached words = record { reached = reached; words = words; ended = s.ended; answer = s.answer }

-- Whether a byte still counts: the sheet has not ended, and no byte was wrong.
unfoldable pub counts : Pieces → Bool
counts s = eqb s.ended 0 && eqb s.reached.wrong 0

-- The state after one byte more: a right byte is taken, and of a wrong one it is kept that there was one.
unfoldable pub fed_byte : Pieces → ℕ → Pieces
fed_byte s byte =
    pick (counts s)
    (pick (sheet_allows (announced s.reached) s.reached.taken byte)
    (moved_on s (reached_with s.reached byte) (words_with s.reached.taken byte s.words))
    (moved_on s (reached_wrong s.reached) s.words))
    s

-- The state after a piece: after its bytes, one by one.
unfoldable pub fed : Pieces → List ℕ → Pieces
fed s [] = s
fed s (byte ∷ bytes) = fed (fed_byte s byte) bytes
