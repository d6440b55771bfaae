-- The refusals as the code says them, by their numbers and places.
use Rattle.std.specs.Prelude.{Ok, Err}
use Rattle.std.specs.declared.result.Result.{Result}
use Rattle.refusals.specs.declared.Refusal.{Refusal as Why}
use Rattle.refusals.specs.declared.Refusal.TheVariants.{Byte, Layout, Rows, Processors, Method, Limit, Room, Sizes, Question}
use Rattle.refusals.specs.Refusals.{Refusal, refused, not_refused}

-- The number and the place of each.
abbrev pub told : Why → Refusal
told (Byte offset) = refused 1 offset
told Layout = refused 2 0
told Rows = refused 3 0
told Processors = refused 4 0
told Method = refused 5 0
told Limit = refused 6 0
told Room = refused 7 0
told (Sizes row) = refused 8 row
told Question = refused 9 0

-- What a check found: its refusal, or none.
abbrev pub said : {A : Type 0} → Result A Why → Refusal
said (Ok _) = not_refused
said (Err why) = told why
