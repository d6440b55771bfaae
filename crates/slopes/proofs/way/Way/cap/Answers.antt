-- `cap` is the cap itself: it stays for BCL, and falls with the row's own steps for RTA.
use native.Mathlib.Omega.{arith}
use mathlib.Core.Path.{◌≡◌, sym, ap}
use Prim.Native.Nat.{ℕ, ◌*◌, ◌≤◌}
use lib.ListN.{get_or}
use native.Mathlib.Nat.{mul-le-mul, le_refl}
use Rattle.model.proofs.Sheet.{row_sized}
use Rattle.columns.specs.Rows.{sheet_in}
use Rattle.rows.specs.Methods.{method_number}
use Rattle.refinement.proofs.Ways.{cap_level, cap_with_row}
use Rattle.slopes.specs.declared.way.Way.{Way}
use Rattle.slopes.proofs.way.Way.cap.Goals as goal

-- What is known of the row's own numbers: its cost, its window, and where its first step leads.
record Sizes (cost window first : ℕ) : Type 0 where
  positive : 1 ≤ cost
  by-window : cost ≤ window
  from_cost : cost ≤ first
  small : window ≤ 1_000_000
  by_limit : first ≤ 1_000_000

sizes : (way : Way) → {cost : ℕ} → cost ≡ (sheet_in way.ray.rows).cost way.row → Sizes cost way.window way.first
sizes way is_cost =
    let on = way.on_way in
    let aim = way.aimed in
    let sized = row_sized _ on.ready.rows way.row on.inside in
    let range = on.ready.in_range way.row on.inside in
    let drop = get_or way.ray.drops.now.each way.row 0 in
    let steps : 1 * drop ≤ way.most * drop = mul-le-mul way.some_step (le_refl _) in
    record {
      positive = omega arith;
      by-window = omega (arith, aim.by_deadline);
      from_cost = omega (arith, on.own, aim.by_bound, aim.by_drop);
      small = omega (arith, aim.by_deadline);
      by_limit = omega (arith, aim.by_bound);
    }

pub overflow_add-result : goal.overflow_add-result
overflow_add-result c = let known = sizes c.args.self.now c.cost-cost.ensures in omega arith

pub overflow_add-result-in-Rta : goal.overflow_add-result-in-Rta
overflow_add-result-in-Rta c = let known = sizes c.args.self.now c.cost-cost.ensures in omega arith

pub returns-in-Bcl : goal.returns-in-Bcl
returns-in-Bcl c =
    let way = c.args.self.now in
    let known = sizes way c.cost-cost.ensures in
    record {
      small = omega arith;
      lies = cap_level _ _ _ _ _ way.on_way _ _ _ _ _ way.aimed (sym c.cost-cost.ensures) (ap method_number c.in-Bcl.is);
    }

pub returns-in-Rta : goal.returns-in-Rta
returns-in-Rta c =
    let way = c.args.self.now in
    let known = sizes way c.cost-cost.ensures in
    let other = ap method_number c.in-Rta.is in
    record {
      small = omega arith;
      lies = cap_with_row _ _ _ _ _ way.on_way _ _ _ _ _ way.aimed (sym c.cost-cost.ensures) (way.ray.drops.now.small way.row) (λ zero. omega arith);
    }
