-- The largest remainder rule, over any amount and any weights: each share is rounded down; the units left go one each to the
-- largest remainders, ties to the lower number. Assumes nothing.
use Rattle.std.specs.Prelude.{Bool, cond, ◌&&◌, ◌||◌, List, [], ◌∷◌, map, ℕ, suc, ◌+◌, ◌*◌, ◌-◌, ◌/◌, ◌%◌, ltb, eqb, get_or}

-- the sum of a list
abbrev pub total : List ℕ → ℕ
total [] = 0
total (x ∷ xs) = x + total xs

-- Each share is rounded down

-- each weight's share of the amount, rounded down; `all` is the sum of the weights
abbrev pub rounded_down : ℕ → ℕ → List ℕ → List ℕ
rounded_down amount all weights = map (λ w. amount * w / all) weights

-- each weight's remainder: what rounding down cut off, in parts of `all`
abbrev pub remainders : ℕ → ℕ → List ℕ → List ℕ
remainders amount all weights = map (λ w. amount * w % all) weights

-- the units left: what the shares, each rounded down, do not come to
abbrev pub left : ℕ → List ℕ → ℕ
left amount weights = amount - total (rounded_down amount (total weights) weights)

-- The units left go one each to the largest remainders, ties to the lower number

-- the remainder s at the place k comes before r at the place i: it is larger, or as large and its number is lower
abbrev pub comes_before : ℕ → ℕ → ℕ → ℕ → Bool
comes_before s k r i = ltb r s || (eqb r s && ltb k i)

-- 1 where a test holds, else 0
abbrev pub one : Bool → ℕ
one b = cond b 1 0

-- how many of a list, whose first place is j, pass a test of number and place
abbrev pub count : (ℕ → ℕ → Bool) → ℕ → List ℕ → ℕ
count test j [] = 0
count test j (x ∷ xs) = one (test x j) + count test (suc j) xs

-- how many remainders come before the one at the place i
abbrev pub rank : List ℕ → ℕ → ℕ
rank rests i = count (λ s k. comes_before s k (get_or rests i 0) i) 0 rests

-- the share at the place i: rounded down, and one more where fewer remainders come before its own than units are left
abbrev pub share_at : ℕ → List ℕ → ℕ → ℕ
share_at amount weights i =
    get_or (rounded_down amount (total weights) weights) i 0
    + one (ltb (rank (remainders amount (total weights) weights) i) (left amount weights))

-- the places of a list whose first place is j
abbrev pub places : ℕ → List ℕ → List ℕ
places j [] = []
places j (x ∷ xs) = j ∷ places (suc j) xs

-- the amount shared by the weights: a share at each weight's place
unfoldable pub apportion : ℕ → List ℕ → List ℕ
apportion amount weights = map (λ i. share_at amount weights i) (places 0 weights)
