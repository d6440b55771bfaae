-- The answers as the code gives them, by numbers and places.
use Rattle.std.specs.Prelude.{ℕ, Result, Ok, Err}
use Rattle.refusals.specs.declared.Refusal.{Refusal as Why}
use Rattle.refusals.specs.Told.{told}
use Rattle.grammar.specs.declared.Header.{Header}
use Rattle.grammar.specs.declared.Read.{Read}
use Rattle.grammar.specs.declared.Written.{Written}
use Rattle.grammar.specs.Sheets.{read_refused}

-- What reading gives: processors and rows, and 0 for both where it refuses.
abbrev pub read_said : Result Header Why → Read
read_said (Ok header) = record { refusal = 0; place = 0; processors = header.processors; rows = header.rows }
read_said (Err why) = read_refused (told why).number (told why).place

-- How many bytes were written, and 0 where it refuses.
abbrev pub written_said : Result ℕ Why → Written
written_said (Ok length) = record { refusal = 0; place = 0; length = length }
written_said (Err why) = record { refusal = (told why).number; place = (told why).place; length = 0 }
