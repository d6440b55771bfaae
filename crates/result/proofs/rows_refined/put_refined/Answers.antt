-- `put_refined` runs the engine into the front of 64 words, which every allowed sheet fits, and writes what that says.
use mathlib.Core.Path.{◌≡◌, ◌∙◌, ap}
use Prim.Native.Nat.{ℕ}
use lib.ListN.{length, take, replicate}
use lib.Seq.{length-take-le}
use Rattle.model.specs.Sheet.{columns}
use Rattle.refinement.specs.Asked.{sheet}
use Rattle.refinement.proofs.Refinement.{handed_whole}
use Rattle.report.specs.Lines.{result_bytes}
use Rattle.report.specs.Result.{result_of}
use Rattle.result.proofs.rows_refined.put_refined.Goals as goal
use Rattle.result.proofs.rows_refined.put_refined.Goals.{Start}

-- A word of the space for each row.
each : (c : Start) → let n = length c.args.asked.now.rows.costs.now in length {A = ℕ} (take n (replicate 64 0)) ≡ (sheet c.args.asked.now).rows
unfolding columns
each c = length-take-le _ (replicate 64 0) c.args.asked.now.rows.few

pub run-marks-requires : goal.run-marks-requires
run-marks-requires c = each (goal.at.run-marks-requires c).Start

pub put_result-requires : goal.put_result-requires
unfolding columns
put_result-requires c =
    let rows = c.run-marks.auto.bounds ∙ each (goal.at.put_result-requires c).Start in
    let few = c.args.asked.now.rows.few in
    rw rows (few, c.requires)

pub returns : goal.returns
unfolding result_of
returns c =
    let rows = c.run-marks.auto.bounds ∙ each (goal.at.returns c).Start in
    c.put_result.ensures
    ∙ rw (rows, c.run-marks.ensures.seen, c.run-marks.ensures.settled) (ap (result_bytes _ _) (handed_whole _ _ _ _))
