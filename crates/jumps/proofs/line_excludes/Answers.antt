-- `line_excludes` compares in 64 bits what the definition compares.
use native.Mathlib.Omega.{arith}
use native.Mathlib.Nat.{le_trans}
use Rattle.laws.proofs.Sum.{total-within}
use Rattle.refinement.specs.Inner.Kept.{line_at}
use Rattle.refinement.proofs.Chord.{line-within_cap}
use Rattle.jumps.proofs.line_excludes.Goals as goal

pub overflow_add-result : goal.overflow_add-result
overflow_add-result c =
    let pending = c.args.pending.now in
    omega (
      arith,
      pending.kept.small,
      pending.kept.rows.few,
      total-within (line_at pending.others c.args.trial.x c.args.trial.cap) 4_294_967_296_000_000 pending.left
          (λ i h. le_trans (line-within_cap _ _ _ _) (omega (arith, c.requires.1))),
    )
