-- The one-row answer of each method, and what it means.
use Rattle.std.specs.Prelude.{◌≡◌, List, ℕ, zero, suc, ◌+◌, ◌-◌, ◌≤◌, ◌<◌, leb, eqb}
use Rattle.std.proofs.Math.Option.{Option, none, some}
use Rattle.laws.specs.Choice.{pick}
use Rattle.laws.specs.Search.{least}
use Rattle.model.specs.Sheet.{Sheet}
use Rattle.model.specs.Interference.{bcl_value, rta_right}

-- The two published tests. Method 0 is BCL, 1 is RTA.
pub data Method : Type 0 where
  BCL RTA : Method

unfoldable pub method_of : ℕ → Method
method_of zero = BCL
method_of (suc number) = RTA

-- BCL: the answer is Q if Q ≤ Dk, else none.
unfoldable pub bcl_answer : Sheet → ℕ → ℕ → List ℕ → Option ℕ
bcl_answer s m k R = pick (leb (bcl_value s m k R) (s.deadline k)) (some (bcl_value s m k R)) none

-- RTA: the least X with Ck ≤ X ≤ Dk and X equal to its right side, else none.
unfoldable pub rta_answer : Sheet → ℕ → ℕ → List ℕ → Option ℕ
rta_answer s m k R = least (λ x. eqb x (rta_right s m k R x)) (s.cost k) (s.deadline k + 1 - s.cost k)

-- The one-row answer of a method: sheet, processors, row under question, current bounds.
unfoldable pub answer : Method → Sheet → ℕ → ℕ → List ℕ → Option ℕ
answer BCL = bcl_answer
answer RTA = rta_answer

-- x is the least whole response time from the cost to the deadline that solves the equation.
pub record Response (s : Sheet) (m k : ℕ) (R : List ℕ) (x : ℕ) : Type 0 where
  pub from_cost : s.cost k ≤ x
  pub by_deadline : x ≤ s.deadline k
  pub solves : x ≡ rta_right s m k R x
  pub lowest : (y : ℕ) → s.cost k ≤ y → y < x → y ≡ rta_right s m k R y → ⊥

-- No whole number from the cost to the deadline solves the equation.
abbrev pub NoResponse : Sheet → ℕ → ℕ → List ℕ → Type 0
NoResponse s m k R = (y : ℕ) → s.cost k ≤ y → y ≤ s.deadline k → y ≡ rta_right s m k R y → ⊥

-- q is what the BCL formula gives, and meets the deadline.
pub record Formula (s : Sheet) (m k : ℕ) (R : List ℕ) (q : ℕ) : Type 0 where
  pub value : q ≡ bcl_value s m k R
  pub by_deadline : q ≤ s.deadline k

-- What a one-row answer means, none included.
abbrev pub Answers : Method → Sheet → ℕ → ℕ → List ℕ → Option ℕ → Type 0
Answers BCL s m k R none = s.deadline k < bcl_value s m k R
Answers BCL s m k R (some q) = Formula s m k R q
Answers RTA s m k R none = NoResponse s m k R
Answers RTA s m k R (some x) = Response s m k R x
