-- Units given at once to every remainder above a bar, for inner contracts. Assumes nothing.
use Rattle.std.specs.Prelude.{cond, List, [], ◌∷◌, map, ℕ, ◌+◌, ltb}

-- 1 for a remainder above the bar, else 0
abbrev pub one_above : ℕ → ℕ → ℕ
one_above bar r = cond (ltb bar r) 1 0

-- a remainder above the bar is served, and counts as 0
abbrev pub unless_served : ℕ → ℕ → ℕ
unless_served bar r = cond (ltb bar r) 0 r

-- how many of the remainders are above the bar
abbrev pub count_above : ℕ → List ℕ → ℕ
count_above bar [] = 0
count_above bar (r ∷ rests) = one_above bar r + count_above bar rests

-- the remainders, those above the bar served
abbrev pub strike_above : ℕ → List ℕ → List ℕ
strike_above bar rests = map (λ r. unless_served bar r) rests

-- the shares, one more to each whose remainder is above the bar
abbrev pub give_above : ℕ → List ℕ → List ℕ → List ℕ
give_above bar [] shares = shares
give_above bar (r ∷ rests) [] = []
give_above bar (r ∷ rests) (s ∷ shares) = (s + one_above bar r) ∷ give_above bar rests shares
