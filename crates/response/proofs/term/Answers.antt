-- `term` is the least of work, share and cap: a row that is ready has work of at least 1, so a least of 0 or 1 needs no more looking.
use lib.ListN.{get_or}
use Rattle.model.proofs.Sheet.{row_sized}
use Rattle.model.specs.Interference.{work, work_of}
use Rattle.refinement.specs.Asked.{sheet}
use Rattle.refinement.specs.Inner.{term_of}
use Rattle.refinement.proofs.Limits.{work_positive}
use Rattle.refinement.proofs.Sizes.{sizes}
use native.Mathlib.Omega.{arith}
use Rattle.response.proofs.term.Goals as goal

pub returns-then-most-le1 : goal.returns-then-most-le1
unfolding term_of work_of
returns-then-most-le1 c =
    let s = sheet c.args.given.now.asked in
    let other = c.args.other in
    let some-work = work_positive (s.cost other) (s.period other) (get_or c.args.given.now.bounds.now other 0) c.args.x
    (row_sized _ c.args.given.now.ready.rows other c.requires.0).positive (c.args.given.now.ready.in_range other c.requires.0).0 c.requires.2 in
    omega arith

pub overflow_add-time : goal.overflow_add-time
overflow_add-time c = let known = sizes _ _ c.args.given.now.ready c.args.other c.requires.0 in omega (arith, c.requires.3)

pub work_in_time-requires : goal.work_in_time-requires
work_in_time-requires c =
    let known = sizes _ _ c.args.given.now.ready c.args.other c.requires.0 in
    omega (arith, c.requires.3)

pub returns : goal.returns
unfolding term_of work_of work
returns c = cc
