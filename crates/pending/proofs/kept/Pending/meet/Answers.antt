-- `meet` takes in row by row: what is kept adds what the rows passed add.
use native.Mathlib.Omega.{arith}
use Rattle.model.proofs.Sheet.{few_rows}
use Rattle.laws.proofs.Sum.{total_step}
use Rattle.refinement.specs.Asked.{sheet}
use Rattle.refinement.specs.Inner.{term_of, share_in}
use Rattle.pending.proofs.kept.Pending.meet.Goals as goal

pub take_in-requires : goal.take_in-requires
take_in-requires c = (omega arith, c.requires.2, omega (arith, c.loop-place.invariant.small, few_rows _ c.args.given.now.ready.rows))

pub loop-place-preserved : goal.loop-place-preserved
loop-place-preserved c =
    let q = c.loop-place in
    let s = sheet c.args.given.now.asked in
    let R = c.args.given.now.bounds.now in
    record {
      small = omega (arith, c.take_in.ensures.small, q.invariant.small);
      sums = λ x cap window some-cap.
          omega (
            arith,
            q.invariant.sums x cap window some-cap,
            c.take_in.ensures.sums x cap window some-cap,
            total_step (term_of s R (share_in s R c.args.window) x cap) q.place,
          );
    }
