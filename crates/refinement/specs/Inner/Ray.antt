-- Steps down a ray, as inner functions see them: no user need believe it.
use Rattle.std.specs.Prelude.{◌≡◌, List, ℕ, ◌+◌, ◌*◌, ◌-◌, ◌≤◌, ◌<◌, min, length, get_or}
use Rattle.laws.specs.Sum.{unless}
use Rattle.laws.specs.Fill.{Below}
use Rattle.laws.specs.Inner.{Under}
use Rattle.model.specs.Sheet.{Sheet}
use Rattle.model.specs.Interference.{others, bcl_term, rta_term}
use Rattle.model.specs.Answer.{Method, BCL, RTA}
use Rattle.model.specs.Refine.{Ask}
use Rattle.model.specs.Inner.{along, Falls, Held}
use Rattle.refinement.specs.Question.{Ready}

-- What another row adds at X, by either method, and the most that it may add.
unfoldable pub term_by : Method → Sheet → ℕ → List ℕ → ℕ → ℕ → ℕ
term_by BCL s k R x i = bcl_term s k R i
term_by RTA s k R x i = rta_term s k R x i

unfoldable pub cap_by : Method → Sheet → ℕ → ℕ → ℕ
cap_by BCL s k x = s.deadline k - s.cost k + 1
cap_by RTA s k x = x - s.cost k + 1

-- Where step t leads row k.
unfoldable pub step_to : List ℕ → List ℕ → ℕ → ℕ → ℕ
step_to R drops k t = get_or R k 0 - (t + 1) * get_or drops k 0

-- What row i adds to row k's sum when row k makes step t, and the most that it may add.
unfoldable pub term_along : Method → Sheet → List ℕ → List ℕ → ℕ → ℕ → ℕ → ℕ
term_along method s R drops k i t = term_by method s k (along s.rows R drops t) (step_to R drops k t) i

unfoldable pub cap_along : Method → Sheet → List ℕ → List ℕ → ℕ → ℕ → ℕ
cap_along method s R drops k t = cap_by method s k (step_to R drops k t)

-- A line over a function, for no more steps than are asked for and no steeper than two rows fall.
pub record Lies (f : ℕ → ℕ) (most value slope limit : ℕ) : Type 0 where
  pub under : Under f value slope limit
  pub fewer : limit ≤ most
  pub gentle : slope ≤ 2_000_000

-- How long a part lasts that falls by so much a step: 0 steps where it is above the cost.
pub record Lasts (part fall cost steps : ℕ) : Type 0 where
  pub shows : 1 ≤ steps → part ≤ cost
  pub inside : (t : ℕ) → t < steps → t * fall ≤ part

-- A line from a value lies over whatever falls by `whole` a step for all steps, and by `rest` more for so many.
abbrev pub FallsFrom : ℕ → ℕ → ℕ → ℕ → ℕ → ℕ → ℕ → ℕ → Type 0
FallsFrom start whole rest lasts most value slope limit =
    (f : ℕ → ℕ) → Under f start whole most → (1 ≤ lasts → Under f start (whole + rest) (min most lasts)) → Lies f most value slope limit

-- A line that lies over the least of any two functions that two lines lie over.
pub record Lower (v s l v' s' l' value slope limit : ℕ) : Type 0 where
  pub first : value ≤ v
  pub second : value ≤ v'
  pub lies : (f g : ℕ → ℕ) (most : ℕ) → Lies f most v s l → Lies g most v' s' l' → Lies (λ t. min (f t) (g t)) most value slope limit

-- What a row's way down asks: a sheet of allowed sizes, bounds in range, and room for the steps asked for.
pub record OnWay (s : Sheet) (R drops : List ℕ) (row most : ℕ) : Type 0 where
  pub ready : Ready s R
  pub inside : row < s.rows
  pub room : (t : ℕ) → t < most → (i : ℕ) → i < s.rows → t * get_or drops i 0 + s.cost i ≤ get_or R i 0
  pub own : most * get_or drops row 0 + s.cost row ≤ get_or R row 0

-- A row's first step, as the sheet and the bounds say it.
pub record Aimed (s : Sheet) (R drops : List ℕ) (row window first fall : ℕ) : Type 0 where
  pub by_deadline : window ≡ s.deadline row
  pub by_drop : fall ≡ get_or drops row 0
  pub by_bound : first ≡ get_or R row 0 - fall

-- A line that lies over a function and does not begin above a million.
pub record SmallLine (f : ℕ → ℕ) (most value slope limit : ℕ) : Type 0 where
  pub small : value ≤ 1_000_000
  pub lies : Lies f most value slope limit

-- What row i adds to row k's sum, which is nothing where it is row k itself; and the sum.
unfoldable pub added_along : Method → Sheet → List ℕ → List ℕ → ℕ → ℕ → ℕ → ℕ
added_along method s R drops k i t = unless k (λ i. term_along method s R drops k i t) i

unfoldable pub sum_along : Method → Sheet → List ℕ → List ℕ → ℕ → ℕ → ℕ
sum_along method s R drops k t = others s k (λ i. term_along method s R drops k i t)

-- A line over a sum, for no more steps than are asked for.
pub record SumLine (f : ℕ → ℕ) (most value slope limit : ℕ) : Type 0 where
  pub under : Under f value slope limit
  pub fewer : limit ≤ most
  pub small : value ≤ 64_000_000

-- For how many steps what begins at a value and falls by a slope stays below a room that falls by `pull`.
pub record StaysBelow (value slope limit pull room steps : ℕ) : Type 0 where
  pub fewer : steps ≤ limit
  pub begins : 1 ≤ steps → value < room
  pub lasts : (t : ℕ) → t < steps → t * (pull - slope) ≤ room - 1 - value

-- A row's turn allows so many of the steps asked for.
pub record Reaches (s : Sheet) (ask : Ask) (R drops : List ℕ) (row most steps : ℕ) : Type 0 where
  pub fewer : steps ≤ most
  pub falls : Falls s ask R drops row steps

-- Every row has room for so many steps.
abbrev pub Roomy : Sheet → List ℕ → List ℕ → ℕ → Type 0
Roomy s R drops most = (i : ℕ) → i < s.rows → most * get_or drops i 0 + s.cost i ≤ get_or R i 0

-- What a pass down the ray leaves: lower bounds, and so many further steps that may be made at once.
pub record Lowered (s : Sheet) (ask : Ask) (before after drops : List ℕ) (further : ℕ) : Type 0 where
  pub below : Below s.rows after before
  pub room : (i : ℕ) → i < s.rows → further * get_or drops i 0 ≤ get_or after i 0
  pub one_each : length after ≡ s.rows
  pub ahead : Held s ask (along s.rows after drops further)

-- What going down leaves: lower bounds that hold what bounds on the way hold.
pub record Descended (s : Sheet) (ask : Ask) (before after : List ℕ) : Type 0 where
  pub held : Held s ask after
  pub below : Below s.rows after before
