-- Line one byte by byte: what the loop has passed was right, so where it stops the rest of the piece goes on.
use mathlib.Core.Path.{sym, ◌∙◌}
use mathlib.Core.Logic.{inl}
use Rattle.grammar.specs.Grammar.{head}
use Rattle.pieces.proofs.LineOne.{begun_done, begun_more, begun_wrong}
use Rattle.line_one.proofs.take_first.Goals as goal

pub returns-then-reached-ge-HEAD : goal.returns-then-reached-ge-HEAD
unfolding head
returns-then-reached-ge-HEAD c = begun_done _ _ _ _ c.loop-byte.invariant (inl c.if-reached-ge-HEAD.true)

pub returns-then-not-line_allows : goal.returns-then-not-line_allows
unfolding head
returns-then-not-line_allows c =
    rw c.moved.ensures
    (begun_wrong _ _ _ _ c.loop-byte.invariant c.loop-byte-test.true c.if-reached-ge-HEAD.false
    (sym c.line_allows.ensures ∙ c.if-not-line_allows.true))

pub loop-byte-preserved : goal.loop-byte-preserved
unfolding head
loop-byte-preserved c =
    rw c.reached_with-reached.ensures
    (begun_more _ _ _ _ c.loop-byte.invariant c.loop-byte-test.true c.if-reached-ge-HEAD.false
    (sym c.line_allows.ensures ∙ c.if-not-line_allows.false))
