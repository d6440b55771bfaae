-- `term` is the lowest of the lines over share, cap and work, of which the term is the least.
use native.Mathlib.Omega.{arith}
use mathlib.Core.Path.{ap}
use Prim.Native.Nat.{ℕ, ◌≤◌, ◌<◌}
use lib.ListN.{get_or}
use native.Mathlib.Nat.{le_trans}
use Rattle.model.proofs.Sheet.{row_sized, few_rows}
use Rattle.columns.specs.Rows.{sheet_in}
use Rattle.rows.specs.Methods.{method_number}
use Rattle.refinement.proofs.Ways.{time_room, bcl_lies, rta_lies}
use Rattle.slopes.specs.declared.way.Way.{Way}
use Rattle.slopes.proofs.capped.Capped.term.Goals as goal

-- What is known of the other row's numbers, bound and drop, and of the way.
record Sizes (cost deadline period bound drop window first fall : ℕ) : Type 0 where
  some-period : 1 ≤ period
  by_deadline : cost ≤ deadline
  by_period : deadline ≤ period
  small : period ≤ 1_000_000
  from_cost : cost ≤ bound
  by_limit : bound ≤ deadline
  small-drop : drop ≤ 1_000_000
  small-window : window ≤ 1_000_000
  small-first : first ≤ 1_000_000
  small-fall : fall ≤ 1_000_000

sizes : (way : Way) (other : ℕ) → other < (sheet_in way.ray.rows).rows → let s = sheet_in way.ray.rows in
    Sizes (s.cost other) (s.deadline other) (s.period other) (get_or way.ray.bounds.now other 0) (get_or way.ray.drops.now.each other 0)
    way.window way.first way.fall
sizes way other inside =
    let on = way.on_way in
    let aim = way.aimed in
    let sized = row_sized _ on.ready.rows other inside in
    let own = row_sized _ on.ready.rows way.row on.inside in
    let range = on.ready.in_range other inside in
    let own_range = on.ready.in_range way.row on.inside in
    record {
      some-period = omega arith;
      by_deadline = omega arith;
      by_period = omega arith;
      small = omega arith;
      from_cost = omega arith;
      by_limit = omega arith;
      small-drop = way.ray.drops.now.small other;
      small-window = omega (arith, aim.by_deadline);
      small-first = omega (arith, aim.by_bound);
      small-fall = omega (arith, aim.by_drop, way.ray.drops.now.small way.row);
    }

pub bounds-way-other-2 : goal.bounds-way-other-2
bounds-way-other-2 c = omega (arith, few_rows _ c.args.self.now.way.now.on_way.ready.rows, c.requires)

pub invariant_of-row : goal.invariant_of-row
invariant_of-row c =
    let known = sizes c.args.self.now.way.now _ c.requires in
    record {
      sizes = (omega arith, omega arith, omega arith, omega arith);
      in_range = (omega arith, omega arith);
      small = omega arith;
    }

pub share_line-share-requires : goal.share_line-share-requires
share_line-share-requires c = let known = sizes c.args.self.now.way.now _ c.requires in omega arith

pub overflow_add-time : goal.overflow_add-time
overflow_add-time c = let known = sizes c.args.self.now.way.now _ c.requires in omega arith

pub work_line-work-requires : goal.work_line-work-requires
work_line-work-requires c =
    let way = c.args.self.now.way.now in
    let known = sizes way _ c.requires in
    (omega arith, omega arith, rw c.cost.ensures (time_room _ _ _ _ _ way.on_way _ _ _ way.aimed c.args.other c.requires))

pub returns-in-Bcl : goal.returns-in-Bcl
returns-in-Bcl c =
    record {
      small = le_trans c.lower_line-capped.ensures.second c.args.self.now.over.small;
      lies =
          bcl_lies _ _ _ _ _ c.args.self.now.way.now.on_way _ _ _ _ c.args.other _ _ _ c.args.self.now.way.now.aimed c.requires (ap method_number c.in-Bcl.is)
          (c.lower_line-capped.ensures.lies _ _ c.args.self.now.way.now.most
          (rw (c.cost.ensures, c.deadline.ensures, c.period.ensures) at c.share_line-share.ensures) c.args.self.now.over.lies);
    }

pub returns-in-Rta : goal.returns-in-Rta
returns-in-Rta c =
    let other = ap method_number c.in-Rta.is in
    let capped = c.lower_line-capped.ensures in
    record {
      small = le_trans c.lower_line.ensures.second (le_trans capped.second c.args.self.now.over.small);
      lies =
          rta_lies _ _ _ _ _ c.args.self.now.way.now.on_way _ _ _ _ c.args.other _ _ _ c.args.self.now.way.now.aimed c.requires (λ zero. omega arith)
          (c.lower_line.ensures.lies _ _ c.args.self.now.way.now.most
          (rw (c.cost.ensures, c.period.ensures) at c.work_line-work.ensures)
          (capped.lies _ _ c.args.self.now.way.now.most
          (rw (c.cost.ensures, c.deadline.ensures, c.period.ensures) at c.share_line-share.ensures) c.args.self.now.over.lies));
    }
