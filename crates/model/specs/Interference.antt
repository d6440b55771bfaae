-- Interference on one row. Row k is under question and i runs over every other place. Each row has a current bound R, and natural
-- subtraction stops at 0, so that it is max(0, ·).
use Rattle.std.specs.Prelude.{List, ℕ, ◌+◌, ◌*◌, ◌-◌, ◌/◌, ◌%◌, min, get_or}
use Rattle.laws.specs.Sum.{total, unless}
use Rattle.model.specs.Sheet.{Sheet}

-- I, the demand share of a row in a deadline window of length w: floor(w / T) × C + min(C, max(0, w mod T − S)), with S = D − R.
unfoldable pub share : ℕ → ℕ → ℕ → ℕ → ℕ → ℕ
share c d t r w = w / t * c + min c (w % t - (d - r))

-- N × C + min(C, y − N × T), with N = floor(y / T).
unfoldable pub carried : ℕ → ℕ → ℕ → ℕ
carried c t y = y / t * c + min c (y - y / t * t)

-- W, the work of a row in a window of length l: N = floor((l + R − C) / T); N × C + min(C, l + R − C − N × T).
unfoldable pub work : ℕ → ℕ → ℕ → ℕ → ℕ
work c t r l = carried c t (l + r - c)

-- I of row i in row k's deadline window.
unfoldable pub share_of : Sheet → ℕ → List ℕ → ℕ → ℕ
share_of s k R i = share (s.cost i) (s.deadline i) (s.period i) (get_or R i 0) (s.deadline k)

-- W of row i in a window of length l.
unfoldable pub work_of : Sheet → List ℕ → ℕ → ℕ → ℕ
work_of s R l i = work (s.cost i) (s.period i) (get_or R i 0) l

-- The sum over every other place.
unfoldable pub others : Sheet → ℕ → (ℕ → ℕ) → ℕ
others s k f = total (unless k f) s.rows

-- BCL: Q = Ck + floor(sum of min(I, Dk − Ck + 1) / m).
unfoldable pub bcl_term : Sheet → ℕ → List ℕ → ℕ → ℕ
bcl_term s k R i = min (share_of s k R i) (s.deadline k - s.cost k + 1)

unfoldable pub bcl_value : Sheet → ℕ → ℕ → List ℕ → ℕ
bcl_value s m k R = s.cost k + others s k (bcl_term s k R) / m

-- RTA, its right side at X: Ck + floor(sum of min(W at X, I, X − Ck + 1) / m).
unfoldable pub rta_term : Sheet → ℕ → List ℕ → ℕ → ℕ → ℕ
rta_term s k R x i = min (work_of s R x i) (min (share_of s k R i) (x - s.cost k + 1))

unfoldable pub rta_right : Sheet → ℕ → ℕ → List ℕ → ℕ → ℕ
rta_right s m k R x = s.cost k + others s k (rta_term s k R x) / m
