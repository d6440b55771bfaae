-- `other_row` writes down the sheet's own numbers, and the share that the definition gives.
use mathlib.Core.Path.{◌≡◌, refl, ◌∙◌}
use native.Mathlib.Omega.{arith}
use Rattle.model.proofs.Sheet.{row_sized}
use Rattle.refinement.specs.Asked.{sheet}
use Rattle.refinement.specs.Inner.{share_in}
use Rattle.refinement.proofs.Limits.{share-within}
use Rattle.refinement.proofs.Sizes.{sizes}
use Rattle.refinement.proofs.Kept.{term_numbers}
use Rattle.pending.proofs.other_row.Goals as goal

pub share_in_window-share-requires : goal.share_in_window-share-requires
share_in_window-share-requires c =
    let sized = row_sized _ c.args.given.now.ready.rows c.args.place c.requires.0 in
    omega (arith, c.requires.1)

pub returns-clause-known : goal.returns-clause-known
returns-clause-known c =
    let a = c.args in
    let known = sizes _ _ a.given.now.ready a.place c.requires.0 in
    let within = share-within c.cost-cost.result c.deadline.result c.period-period.result c.bound-bound.result a.window (omega arith) in
    record {
      sizes = record { some_cost = omega arith; by_period = omega arith; small = omega arith; from_cost = omega arith; by_limit = omega arith };
      small_share = omega (arith, within, c.requires.1);
      small_rise = omega (arith, within, c.requires.1);
      comes = c.rise_of-rise.ensures.comes;
    }

pub returns-clause-adds : goal.returns-clause-adds
unfolding share_in
returns-clause-adds c x cap =
    let a = c.args in
    let s = sheet a.given.now.asked in
    let R = a.given.now.bounds.now in
    let known = sizes _ _ a.given.now.ready a.place c.requires.0 in
    let shared : c.share_in_window-share.result ≡ share_in s R a.window a.place =
    c.share_in_window-share.ensures ∙ rw (c.cost-cost.ensures, c.deadline.ensures, c.period-period.ensures, c.bound-bound.ensures) refl in
    rw (shared, c.cost-cost.ensures, c.period-period.ensures, c.bound-bound.ensures)
    (term_numbers s R (share_in s R a.window) x cap a.place c.rise_of-rise.result known.from_cost)
