-- The first wrong offset: the loop has passed no wrong one, so where it stops is the search's answer.
use Prim.Native.Nat.{◌≤◌}
use mathlib.Core.Path.{◌≡◌, sym, ◌∙◌, ap}
use native.Mathlib.Omega.{arith}
use borrow.Author.Count.{below_more}
use Rattle.rows.specs.Words.{found_of}
use Rattle.grammar.specs.Grammar.{sheet_length, rows_written}
use Rattle.grammar.proofs.Grammar.{announced_small, wrong_found, none_wrong}
use Rattle.form.proofs.first_wrong.Goals as goal
use Rattle.form.proofs.first_wrong.Goals.{After-sheet_length-full}

pub sheet_length-full-requires : goal.sheet_length-full-requires
sheet_length-full-requires c =
    let p = c.args in
    rw c.first_line-line.ensures.rows (omega (arith, announced_small p.bytes.now))

-- The length that the bytes announce.
announced : (c : After-sheet_length-full) → c.sheet_length-full.result ≡ sheet_length (rows_written c.args.bytes.now)
announced c = c.sheet_length-full.ensures ∙ ap sheet_length c.first_line-line.ensures.rows

pub overflow_cast-result : goal.overflow_cast-result
overflow_cast-result c =
    omega (arith, announced (goal.at.overflow_cast-result c).After-sheet_length-full, announced_small c.args.bytes.now)

pub returns-then-wrong_at : goal.returns-then-wrong_at
unfolding found_of
returns-then-wrong_at c =
    let p = c.args in
    let q = c.loop-offset in
    let within : q.offset ≤ sheet_length (rows_written p.bytes.now) =
    omega (arith, announced (goal.at.returns-then-wrong_at c).After-sheet_length-full) in
    ap found_of (sym (wrong_found p.bytes.now q.offset within (sym c.wrong_at.ensures ∙ c.if-wrong_at.true) q.invariant))

pub returns-else-wrong_at : goal.returns-else-wrong_at
unfolding found_of
returns-else-wrong_at c =
    let full = announced (goal.at.returns-else-wrong_at c).After-sheet_length-full in
    ap found_of
    (sym
    (none_wrong c.args.bytes.now
    (λ k within. below_more _ _ c.loop-offset.invariant (sym c.wrong_at.ensures ∙ c.if-wrong_at.false) k (omega (arith, full)))))
