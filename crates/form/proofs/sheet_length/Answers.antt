-- The length of a sheet: the definition, and the caller has shown that it fits.
use native.Mathlib.Omega.{arith}
use Rattle.grammar.specs.Grammar.{head, line, sheet_length}
use Rattle.form.proofs.sheet_length.Goals as goal

pub overflow_mul-result : goal.overflow_mul-result
unfolding sheet_length head line
overflow_mul-result c = omega arith

pub overflow_add-result : goal.overflow_add-result
unfolding sheet_length head line
overflow_add-result c = omega arith

pub returns : goal.returns
unfolding sheet_length head line
returns c = omega arith
