-- The round trips, over what the two entries return and leave behind: a sheet that was read and is written comes back in upper case, and
-- rows that were written and are read come back word for word, with the same processors.
use mathlib.Core.Path.{◌≡◌, sym, ◌∙◌, ap, ap₂}
use mathlib.Core.List.{List, ◌++◌, map}
use Prim.Native.Nat.{ℕ, ◌*◌, ◌≤◌}
use native.Mathlib.Omega.{arith}
use lib.ListN.{length, take, drop, length-map}
use lib.Seq.{take_at}
use Rattle.digits.specs.Digits.{upper}
use Rattle.rows.specs.Words.{sheet_of}
use Rattle.rows.proofs.Checks.{words_laid}
use Rattle.grammar.specs.Grammar.{sheet_length, processors_written, rows_written}
use Rattle.grammar.specs.Lines.{sheet_bytes, words_written}
use Rattle.grammar.specs.Sheets.{read_sheet, words_after, rows_read, write_sheet, bytes_after}
use Rattle.grammar.proofs.Lines.{sheet_bytes_length}
use Rattle.grammar.proofs.Refusals.{words_rows}
use Rattle.grammar.proofs.ReadBack.{sheet_back}
use Rattle.grammar.proofs.WriteBack.{processors_same, rows_same, words_same, sound_formed}
use Rattle.grammar.specs.Meaning.{Readable, Writable}
use Rattle.grammar.proofs.Entries.{read_found, read_answers, read_leaves, processors_read, words_read, write_found, write_answers, write_leaves}

-- A sheet that is not refused, read into any words and written into any space that holds it, comes back in upper case, byte by byte.
pub read_then_written : (bytes words out : List ℕ) → (read_sheet bytes (length words)).refusal ≡ 0 → length bytes ≤ length out
    → let rows = rows_read bytes words in
    let processors = (read_sheet bytes (length words)).processors in
    (write_sheet rows processors (length out) ≡ record { refusal = 0; place = 0; length = length bytes })
    × (bytes_after rows processors out ≡ map upper bytes ++ drop (length bytes) out)
read_then_written bytes words out none_holds room =
    let facts : Readable bytes (length words) = read_found bytes (length words) none_holds in
    let size : sheet_length (sheet_of (words_written bytes)).rows ≡ length bytes = ap sheet_length (words_rows bytes) ∙ sym facts.formed.whole in
    let fits : Writable (words_written bytes) (processors_written bytes) (length out) =
    record { laid = facts.passed.laid; sizes = facts.passed.sizes; allowed = facts.passed.allowed; enough = rw size room } in
    rw (words_read bytes words facts, processors_read bytes words facts) (
      write_answers (words_written bytes) (processors_written bytes) (length out) fits ∙ ap (λ (n : ℕ). record { refusal = 0; place = 0; length = n }) size,
      write_leaves (words_written bytes) (processors_written bytes) out fits
          ∙ ap (λ (l : List ℕ). l ++ drop (length l) out) (sheet_back bytes facts.formed)
          ∙ ap (λ (n : ℕ). map upper bytes ++ drop n out) (length-map bytes upper),
    )

-- Rows that are not refused, written into any space and read into any words that hold them, come back the same, with the same processors.
pub written_then_read : (words : List ℕ) (processors : ℕ) (out space : List ℕ) → (write_sheet words processors (length out)).refusal ≡ 0
    → length words ≤ length space
    → let bytes = take (write_sheet words processors (length out)).length (bytes_after words processors out) in
    (read_sheet bytes (length space) ≡ record { refusal = 0; place = 0; processors = processors; rows = (sheet_of words).rows })
    × (words_after bytes space ≡ words ++ drop (length words) space)
written_then_read words processors out space none_holds room =
    let facts : Writable words processors (length out) = write_found words processors (length out) none_holds in
    let sheet = sheet_bytes (sheet_of words) processors in
    let size : length sheet ≡ sheet_length (sheet_of words).rows = sheet_bytes_length (sheet_of words) processors in
    let line_one : processors_written sheet ≡ processors = processors_same words processors facts.laid facts.sizes facts.allowed in
    let count : rows_written sheet ≡ (sheet_of words).rows = rows_same words processors facts.laid facts.sizes in
    let same : words_written sheet ≡ words = words_same words processors facts.laid facts.sizes in
    let whole : length words ≡ 3 * (sheet_of words).rows = (words_laid words facts.laid).whole in
    let fits : Readable sheet (length space) =
    record {
      formed = sound_formed words processors facts.laid facts.sizes;
      passed =
          record {
            laid = rw same facts.laid;
            sizes = rw same facts.sizes;
            allowed = rw line_one facts.allowed;
            enough = rw count (omega arith);
          };
    } in
    rw (
      write_answers words processors (length out) facts,
      write_leaves words processors out facts,
      take_at sheet (drop (length sheet) out) (sheet_length (sheet_of words).rows) size,
    ) (
      read_answers sheet (length space) fits
          ∙ ap₂ (λ (m n : ℕ). record { refusal = 0; place = 0; processors = m; rows = n }) line_one count,
      read_leaves sheet space fits ∙ ap (λ (l : List ℕ). l ++ drop (length l) space) same,
    )
