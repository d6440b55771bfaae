-- `rta_row` meets its contract: the right side keeps order and is not below the cost, so it is climbed to the least X that is its own.
use Rattle.std.proofs.Common.{rules}
use Rattle.model.specs.Interference.{rta_right}
use Rattle.model.specs.Answer.{rta_answer}
use Rattle.model.proofs.Interference.{rta_right_rises, rta_right_from_cost}
use Rattle.refinement.specs.Asked.{sheet}
use Rattle.response.proofs.prepared.Prepared.rta_row.Goals as goal

pub returns : goal.returns
unfolding rta_answer
returns c =
    let given = c.args.self.now.given.now in
    rw (c.cost.ensures, c.deadline.ensures) at (c.climb.ensures (rta_right (sheet given.asked) given.asked.processors c.args.self.now.row given.bounds.now)
    (record { order = rta_right_rises _ _ _ _; rises = rw c.cost.ensures (rta_right_from_cost _ _ _ _ _); each = λ x y low high met. search rules }))
