-- Work and share along a ray lie under lines. Whole periods taken from a time take as many costs from its work; what is left takes itself
-- while the time ends within a job. The carry part of a share does the same.
use mathlib.Core.Path.{◌≡◌, sym, ◌∙◌, ap}
use Prim.Native.Nat.{ℕ, ◌+◌, ◌*◌, ◌-◌, ◌/◌, ◌%◌, ◌≤◌, ◌<◌, min}
use native.Mathlib.Nat.{le_trans, mul-add, mul_assoc, add-mul, add-mul-div_right, div-add-mod', div-eq_of_lt, mod-lt}
use native.Mathlib.Omega.{arith}
use Rattle.laws.specs.Inner.{Under}
use Rattle.model.specs.Interference.{share, carried}
use Rattle.model.proofs.Interference.{carried_mono, share_mono}

-- Whole periods more are as many costs more.
pub carried_whole : (c p z n : ℕ) → 0 < p → carried c p (z + n * p) ≡ carried c p z + n * c
unfolding carried
carried_whole c p z n some =
    let more : (z + n * p) / p ≡ z / p + n = add-mul-div_right z n some in
    rw more (omega (arith, add-mul (z / p) n c, add-mul (z / p) n p))

-- Less than a period carries itself, up to the cost.
carried_rest : (c p b : ℕ) → b < p → carried c p b ≡ min c b
unfolding carried
carried_rest c p b small = rw (div-eq_of_lt small) (omega arith)

module _ (c p time shrink : ℕ) (some : 0 < p) where
  -- What t steps take of the time: whole periods, and t times the rest.
  parts : (t : ℕ) → t * shrink ≡ t * (shrink / p) * p + t * (shrink % p)
  parts t =
      ap (λ (x : ℕ). t * x) (sym (div-add-mod' shrink p))
      ∙ mul-add t (shrink / p * p) (shrink % p)
      ∙ ap (λ (x : ℕ). x + t * (shrink % p)) (sym (mul_assoc t (shrink / p) p))

  -- The work falls by the cost of the whole periods in each step.
  pub work_falls : (steps : ℕ) → ((t : ℕ) → t < steps → t * shrink ≤ time)
      → Under (λ t. carried c p (time - t * shrink)) (carried c p time) (shrink / p * c) steps
  work_falls steps room t h =
      let enough = room t h in
      let whole = carried_whole c p (time - t * shrink) (t * (shrink / p)) some in
      let within : time - t * shrink + t * (shrink / p) * p ≤ time = omega (arith, parts t) in
      omega (arith, carried_mono c p (time - t * shrink + t * (shrink / p) * p) time within, mul_assoc t (shrink / p) c)

  -- And by the rest of each step too, while the time ends within a job.
  pub work_falls_fast : (steps : ℕ) → ((t : ℕ) → t < steps → t * shrink ≤ time) → time % p ≤ c
      → ((t : ℕ) → t < steps → t * (shrink % p) ≤ time % p)
      → Under (λ t. carried c p (time - t * shrink)) (carried c p time) (shrink / p * c + shrink % p) steps
  work_falls_fast steps room early inside t h =
      let enough = room t h in
      let left = time % p - t * (shrink % p) in
      let small : left < p = omega (arith, mod-lt time some) in
      let same : time - t * shrink + t * (shrink / p) * p ≡ left + time / p * p = omega (arith, parts t, inside t h, div-add-mod' time p) in
      let now : carried c p time ≡ carried c p (time % p) + time / p * c =
      ap (carried c p) (omega (arith, div-add-mod' time p)) ∙ carried_whole c p (time % p) (time / p) some in
      let later : carried c p (time - t * shrink) + t * (shrink / p) * c ≡ carried c p left + time / p * c =
      sym (carried_whole c p (time - t * shrink) (t * (shrink / p)) some) ∙ ap (carried c p) same ∙ carried_whole c p left (time / p) some in
      omega (
        arith,
        now,
        later,
        carried_rest c p left small,
        carried_rest c p (time % p) (mod-lt time some),
        mul-add t (shrink / p * c) (shrink % p),
        mul_assoc t (shrink / p) c,
        inside t h,
      )

-- A carry within the cost falls by what the slack rises.
carry_falls : (c rest slack fall : ℕ) → rest - slack ≤ c → fall ≤ rest - slack → min c (rest - (slack + fall)) + fall ≤ min c (rest - slack)
carry_falls c rest slack fall early inside = omega arith

module _ (c d p r w drop : ℕ) where
  -- A share does not rise where the bound falls.
  pub share_falls : (steps : ℕ) → Under (λ t. share c d p (r - t * drop) w) (share c d p r w) 0 steps
  share_falls steps t h = omega (arith, share_mono c d p w (r - t * drop) r (omega arith))

  -- And it falls with the bound while the window ends within the carried job.
  pub share_falls_fast : (steps : ℕ) → r ≤ d → c ≤ r → w % p - (d - r) ≤ c → ((t : ℕ) → t < steps → t * drop ≤ w % p - (d - r))
      → Under (λ t. share c d p (r - t * drop) w) (share c d p r w) drop steps
  unfolding share
  share_falls_fast steps by_deadline from_cost early inside t h =
      let fall = t * drop in
      let some_left : fall ≤ r = le_trans (inside t h) (le_trans early from_cost) in
      let slack : d - (r - fall) ≡ d - r + fall = omega arith in
      let carry = carry_falls c (w % p) (d - r) fall early (inside t h) in
      rw slack (omega (arith, carry))
