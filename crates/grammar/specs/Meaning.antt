-- What refusal 1 and its place mean, in plain words, and what it takes not to be refused.
use Rattle.std.specs.Prelude.{◌≡◌, Bool, true, false, List, ◌⊎◌, ℕ, suc, ◌*◌, ◌≤◌, ◌<◌, length, get_or}
use Rattle.std.proofs.Math.Option.{Option, none, some}
use Rattle.model.specs.Sheet.{Sheet, Allowed, processors_allowed}
use Rattle.digits.specs.Digits.{upper}
use Rattle.rows.specs.Words.{sheet_of}
use Rattle.rows.specs.Checks.{not_whole}
use Rattle.grammar.specs.Grammar.{sheet_length, sheet_allows, processors_written, rows_written}
use Rattle.grammar.specs.Lines.{words_written}

-- The bytes have the line form: they are as many as they announce, and each may stand where it stands.
pub record Formed (bytes : List ℕ) : Type 0 where
  pub whole : length bytes ≡ sheet_length (rows_written bytes)
  pub each : (i : ℕ) → i < length bytes → sheet_allows (rows_written bytes) i (get_or bytes i 0) ≡ true

-- The bytes end at a place, short of the length that they announce.
pub record EndsAt (bytes : List ℕ) (place : ℕ) : Type 0 where
  pub end : place ≡ length bytes
  pub short : place < sheet_length (rows_written bytes)

-- A byte stands at a place where it may not.
pub record WrongByteAt (bytes : List ℕ) (place : ℕ) : Type 0 where
  pub inside : place < length bytes
  pub refused : sheet_allows (rows_written bytes) place (get_or bytes place 0) ≡ false

-- The bytes break the line form at a place: each byte before it may stand where it stands, and at it they end or a wrong byte stands.
pub record Breaks (bytes : List ℕ) (place : ℕ) : Type 0 where
  pub reached : place ≤ length bytes
  pub before : (i : ℕ) → i < place → sheet_allows (rows_written bytes) i (get_or bytes i 0) ≡ true
  pub here : EndsAt bytes place ⊎ WrongByteAt bytes place

-- What the first wrong offset means, none included.
abbrev pub FormMeans : List ℕ → Option ℕ → Type 0
FormMeans bytes none = Formed bytes
FormMeans bytes (some place) = Breaks bytes place

-- Two lists of bytes have the same bytes below a place.
abbrev pub AlikeBelow : List ℕ → List ℕ → ℕ → Type 0
AlikeBelow bytes other place = (i : ℕ) → i < place → get_or other i 0 ≡ get_or bytes i 0

-- Two lists of bytes differ below a place in letter case at most.
abbrev pub SameLettersBelow : List ℕ → List ℕ → ℕ → Type 0
SameLettersBelow bytes other place = (i : ℕ) → i < place → upper (get_or other i 0) ≡ upper (get_or bytes i 0)

-- A sheet of the form that has the bytes below a place.
pub record SheetWith (bytes : List ℕ) (place : ℕ) : Type 0 where
  pub sheet : List ℕ
  pub formed : Formed sheet
  pub long : place ≤ length sheet
  pub alike : AlikeBelow bytes sheet place

-- The place tells how far the bytes could have been the front of a sheet: some sheet has all bytes below it, each as it is, and none has
-- the byte at it too, in whatever case it and those below are written.
pub record FarAs (bytes : List ℕ) (place : ℕ) : Type 0 where
  pub some_sheet : SheetWith bytes place
  pub no_sheet : place < length bytes → (sheet : List ℕ) → Formed sheet → place < length sheet
      → SameLettersBelow bytes sheet (suc place) → ⊥

-- What the checks after the form ask: a layout that is not broken, a sheet of allowed sizes, allowed processors, and room for the answer.
pub record RowsFit (broken : Bool) (s : Sheet) (processors room need : ℕ) : Type 0 where
  pub laid : broken ≡ false
  pub sizes : Allowed s
  pub allowed : processors_allowed processors ≡ true
  pub enough : need ≤ room

-- The same of rows in a word list.
abbrev pub WordsFit : List ℕ → ℕ → ℕ → ℕ → Type 0
WordsFit words = RowsFit (not_whole words) (sheet_of words)

-- What is asked of a sheet that is read: the form, rows that fit, allowed processors, and room for three words a row.
pub record Readable (bytes : List ℕ) (room : ℕ) : Type 0 where
  pub formed : Formed bytes
  pub passed : WordsFit (words_written bytes) (processors_written bytes) room (3 * rows_written bytes)

-- The same of writing: rows that fit, allowed processors, and room for the sheet.
abbrev pub Writable : List ℕ → ℕ → ℕ → Type 0
Writable words processors room = WordsFit words processors room (sheet_length (sheet_of words).rows)
