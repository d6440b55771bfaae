-- Each block is put behind those so far, in the part that is lent for it.
use Rattle.std.proofs.Common.{rules, ◌≡◌, ◌*◌, ◌+◌, ◌-◌, ◌≤◌, ◌<◌, List, ◌++◌, ℕ, length, take, drop, refl, sym, ◌∙◌, ap, arith, length-take-le}
use Rattle.std.proofs.Math.Nat.{mul-add, mul-le-mul_left, mul-zero}
use lib.ListN.{length-append, length-drop}
use Rattle.laws.specs.Fill.{joined}
use Rattle.laws.proofs.Fill.{block_joined}
use Rattle.blocks.proofs.put_blocks.Goals as goal

pub loop-place-init : goal.loop-place-init
unfolding joined
loop-place-init g c = (refl, λ block writes. rw mul-zero refl)

module _ (size place count : ℕ) (out before : List ℕ) (here : place < count) (full : length before ≡ size * count) (kept : length out ≡ length before) where
  -- A block more is so many bytes more, and there is room for it.
  more : size * (place + 1) ≡ size * place + size
  more = omega (arith, mul-add size place 1)

  room : size * place + size ≤ length out
  room = omega (arith, more, mul-le-mul_left size here)

  part : let at = size * place in length (take (at + size - at) (drop at out)) ≡ size
  part =
      let at = size * place in
      let same : at + size - at ≡ size = omega arith in
      rw same (length-take-le size (drop at out) (rw length-drop (omega (arith, room))))

  front : (blocks : List ℕ) → out ≡ blocks ++ drop (size * place) before → length blocks ≡ size * place
  front blocks stands = omega (arith, room, ap length stands, length-append blocks (drop (size * place) before), length-drop (size * place) before)

pub loop-place-preserved : goal.loop-place-preserved
loop-place-preserved g c =
    let q = c.loop-place in
    let p = c.args in
    let kept = q.invariant.0 in
    let here : q.place < p.count = omega arith in
    let full = c.requires.1 in
    let lent = part p.size q.place p.count q.out p.out.now here full kept in (
      search rules,
      λ block writes.
          let stands = q.invariant.1 block writes in
          let put = writes q.place _ _ here lent c.put.ensures in
          block_joined block q.place (p.size * q.place) p.size _ _ _ q.out p.out.now
          (front p.size q.place p.count q.out p.out.now here full kept _ stands) (sym (ap length put) ∙ c.put.auto.arg3 ∙ lent)
          refl (more p.size q.place p.count q.out p.out.now here full kept) put stands,
    )
