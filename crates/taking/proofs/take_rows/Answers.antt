-- The rows' lines byte by byte: what the loop has passed was right and its digits are put, so where it stops the piece is taken.
use Prim.Native.Nat.{ℕ}
use mathlib.Core.Path.{◌≡◌, sym, ◌∙◌, ap}
use native.Mathlib.Omega.{arith}
use lib.ListN.{get_or}
use Rattle.grammar.specs.Grammar.{sheet_length}
use Rattle.pieces.specs.Feeding.{announced}
use Rattle.pieces.specs.Inner.{row_allows}
use Rattle.pieces.proofs.Steps.{row_inside}
use Rattle.pieces.proofs.RowLines.{going_done, going_more, going_wrong}
use Rattle.taking.proofs.take_rows.Goals as goal
use Rattle.taking.proofs.take_rows.Goals.{After-allows}

-- What was asked of a byte is what the announced length and its offset say.
allowed : (c : After-allows)
    → let q = c.loop-byte in
    let p = c.args in
    c.allows.result ≡ row_allows (sheet_length (announced p.start)) q.spot.taken (get_or p.bytes.now q.byte-index 0)
allowed c =
    let q = c.loop-byte in
    let p = c.args in
    c.allows.ensures ∙ ap (λ (full : ℕ). row_allows full q.spot.taken (get_or p.bytes.now q.byte-index 0)) c.announced_length-full.ensures

pub returns-then-not-allows : goal.returns-then-not-allows
returns-then-not-allows c =
    let q = c.loop-byte in
    rw c.moved.ensures
    (going_wrong _ _ _ _ _ _ q.invariant c.loop-byte-test.true
    (sym (allowed (goal.at.returns-then-not-allows c).After-allows) ∙ c.if-not-allows.true))

pub next-spot-requires : goal.next-spot-requires
next-spot-requires c =
    omega (arith, row_inside _ c.loop-byte.spot.taken _ (sym (allowed (goal.at.next-spot-requires c).After-allows) ∙ c.if-not-allows.false))

pub loop-byte-preserved : goal.loop-byte-preserved
loop-byte-preserved c =
    let q = c.loop-byte in
    rw c.next-spot.ensures
    (going_more _ _ _ _ _ _ q.invariant c.loop-byte-test.true _ (sym (allowed (goal.at.loop-byte-preserved c).After-allows) ∙ c.if-not-allows.false) c.put_digit.ensures)

pub returns : goal.returns
returns c =
    let q = c.loop-byte in
    rw c.moved-2.ensures (going_done _ _ _ _ _ _ q.invariant c.loop-byte-test.false)
