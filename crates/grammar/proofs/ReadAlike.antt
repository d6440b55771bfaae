-- Two sheets that are not refused read as equal exactly where they differ in letter case at most: a sheet in upper case is read as the sheet
-- is, and what was read writes the sheet in upper case.
use mathlib.Core.Path.{◌≡◌, sym, ◌∙◌, ap₂}
use mathlib.Core.List.{List, map}
use mathlib.Core.Logic.{◌↔◌}
use Prim.Native.Nat.{ℕ}
use lib.ListN.{length}
use Rattle.laws.proofs.Choice.{same_after}
use Rattle.digits.specs.Digits.{upper}
use Rattle.rows.specs.Words.{sheet_of}
use Rattle.grammar.specs.Grammar.{processors_written, rows_written}
use Rattle.grammar.specs.Lines.{sheet_bytes, words_written}
use Rattle.grammar.specs.Meaning.{Readable}
use Rattle.grammar.specs.Sheets.{read_sheet, ReadAlike}
use Rattle.grammar.proofs.LetterCase.{processors_upper, rows_upper, words_upper}
use Rattle.grammar.proofs.ReadBack.{sheet_back}
use Rattle.grammar.proofs.Entries.{read_found, processors_read, rows_read_lem, words_read}

-- Equal readings and equal sheets but for letter case, each from the other.
pub read_alike : (bytes other words space : List ℕ) → (read_sheet bytes (length words)).refusal ≡ 0
    → (read_sheet other (length space)).refusal ≡ 0 → ReadAlike bytes other words space ↔ (map upper bytes ≡ map upper other)
read_alike bytes other words space none_holds none_holds_there =
    let here : Readable bytes (length words) = read_found bytes (length words) none_holds in
    let there : Readable other (length space) = read_found other (length space) none_holds_there in (
      λ alike.
          let processors : processors_written bytes ≡ processors_written other =
          sym (processors_read bytes words here) ∙ alike.processors ∙ processors_read other space there in
          let same : words_written bytes ≡ words_written other =
          sym (words_read bytes words here) ∙ alike.each ∙ words_read other space there in
          sym (sheet_back bytes here.formed)
          ∙ ap₂ (λ (l : List ℕ) (m : ℕ). sheet_bytes (sheet_of l) m) same processors
          ∙ sheet_back other there.formed,
      λ same.
          record {
            processors =
                processors_read bytes words here
                ∙ same_after (map upper) processors_written processors_upper bytes other same
                ∙ sym (processors_read other space there);
            rows =
                rows_read_lem bytes words here
                ∙ same_after (map upper) rows_written rows_upper bytes other same
                ∙ sym (rows_read_lem other space there);
            each =
                words_read bytes words here
                ∙ same_after (map upper) words_written words_upper bytes other same
                ∙ sym (words_read other space there);
          },
    )
