-- `ray_pass` keeps to the ray: each row that makes its first step is allowed all the steps that are left.
use native.Mathlib.Omega.{arith}
use native.Mathlib.Nat.{mul-le-mul, le_refl, le_trans}
use lib.ListN.{length}
use Prim.Native.Nat.{ℕ, ◌+◌, ◌*◌, ◌≤◌, ◌<◌}
use mathlib.Core.Path.{◌≡◌, refl, ◌∙◌}
use Rattle.model.proofs.Sheet.{few_rows}
use Rattle.model.proofs.Ray.{OnRay, ray_first}
use Rattle.refinement.specs.Asked.{sheet, ask}
use Rattle.refinement.proofs.Steps.{ask_regular}
use Rattle.refinement.proofs.Descent.{on_way, ray_lost, ray_done, ray_lowered, ray_stayed}
use Rattle.ray.proofs.ray_pass.Goals as goal
use Rattle.ray.proofs.ray_pass.Goals.{then-drop-ne0+else-reach-eq0, else-drop-ne0}
use Rattle.ray.proofs.ray_pass.Goals.{Joined-drop-ne0}

pub loop-row-init : goal.loop-row-init
loop-row-init c =
    record {
      same_length = refl;
      same_drops = refl;
      on_ray = ray_first _ _ (ask_regular _ _ _) _ _ _ c.requires.0.held;
      fewer = omega arith;
    }

pub bounds-drops-row : goal.bounds-drops-row
bounds-drops-row c = omega (arith, few_rows _ c.requires.0.ready.rows)

pub invariant_of-given : goal.invariant_of-given
invariant_of-given c =
    let q = c.loop-row in
    record { ready = (on_way _ _ (ask_regular _ _ _) _ _ _ c.requires.0.ready c.requires.1 _ _ _ q.invariant.on_ray q.invariant.fewer (omega arith)).ready }

pub row_reach-reach-requires : goal.row_reach-reach-requires
row_reach-reach-requires c =
    let q = c.loop-row in
    rw q.invariant.same_drops
    (on_way _ _ (ask_regular _ _ _) _ _ _ c.requires.0.ready c.requires.1 _ _ _ q.invariant.on_ray q.invariant.fewer (omega arith))

pub returns-then-reach-eq0 : goal.returns-then-reach-eq0
returns-then-reach-eq0 c =
    ray_lost _ _ (ask_regular _ _ _) _ _ _ c.requires.0.ready c.requires.1 _ _ _ _ c.loop-row.invariant.on_ray

-- Room for a step is room for a drop.
first_step : (steps reach drop cost bound : ℕ) → reach ≤ steps → (reach ≡ 0 → ⊥) → steps * drop + cost ≤ bound → drop ≤ bound
first_step steps reach drop cost bound fewer some room =
    let one : 1 * drop ≤ steps * drop = mul-le-mul {n₁ = 1} {n₂ = steps} (omega arith) (le_refl drop) in
    omega arith

pub overflow_sub-bounds : goal.overflow_sub-bounds
overflow_sub-bounds c =
    let q = c.loop-row in
    let way = on_way _ _ (ask_regular _ _ _) _ _ _ c.requires.0.ready c.requires.1 _ _ _ q.invariant.on_ray q.invariant.fewer (omega arith) in
    first_step q.steps c.row_reach-reach.result _ _ _ c.row_reach-reach.ensures.fewer c.if-reach-eq0.false (rw (← q.invariant.same_drops) at way.own)

-- Either way the ray goes on behind the row.
joined : (c : Joined-drop-ne0) → let q = c.loop-row in
    let asked = c.args.asked.now in
    OnRay (sheet asked) (ask asked) c.args.bounds.now c.args.drops.now.each (q.row + 1) c.if-drop-ne0.steps c.if-drop-ne0.bounds
    × (c.if-drop-ne0.steps ≤ q.steps)
    × (length c.if-drop-ne0.bounds ≡ length q.bounds)
joined c =
    let q = c.loop-row in
    let inside : q.row < (sheet c.args.asked.now).rows = omega arith in
    elim c.if-drop-ne0.branch [
      | then-drop-ne0+else-reach-eq0 w ↦
          ray_lowered _ _ (ask_regular _ _ _) _ _ _ _ _ _ q.invariant.on_ray inside q.invariant.same_drops w.row_reach-reach.result
          w.row_reach-reach.ensures w.if-reach-eq0.false _ _ w.bounds-is w.steps-is
      | else-drop-ne0 w ↦
          ray_stayed _ _ (ask_regular _ _ _) _ _ _ _ _ _ q.invariant.on_ray inside q.invariant.same_drops (omega arith) _ _ w.bounds-is w.steps-is
    ]

pub loop-row-preserved : goal.loop-row-preserved
loop-row-preserved c =
    let q = c.loop-row in
    let next = joined (goal.at.loop-row-preserved c).Joined-drop-ne0 in
    record {
      same_length = next.2 ∙ q.invariant.same_length;
      same_drops = q.invariant.same_drops;
      on_ray = next.0;
      fewer = le_trans next.1 q.invariant.fewer;
    }

pub returns : goal.returns
returns c =
    let q = c.loop-row in
    rw q.invariant.same_drops
    (ray_done _ _ (ask_regular _ _ _) _ _ _ c.requires.0.ready c.requires.1 _ _ _ c.requires.0.held q.invariant.on_ray
    q.invariant.fewer (omega arith) c.saturating_sub.result c.saturating_sub.ensures)
