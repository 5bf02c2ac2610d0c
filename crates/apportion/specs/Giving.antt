-- How the units left are given: the reckoning of inner contracts. That it comes to the rule is `reckoned_by_rank` (proofs/ByRank.antt).
-- Assumes nothing.
use Rattle.std.specs.Prelude.{◌≡◌, cond, List, [], ◌∷◌, ℕ, zero, suc, ◌+◌, ◌^◌, ◌≤◌, ◌<◌, max, leb, length, get_or, set}
use Rattle.apportion.specs.Apportion.{total, rounded_down, remainders, left}

-- the largest number of a list, 0 where there is none
abbrev pub top : List ℕ → ℕ
top [] = 0
top (x ∷ xs) = max x (top xs)

-- the place of the largest number; of equal ones the lower place
abbrev pub largest_at : List ℕ → ℕ
largest_at [] = 0
largest_at (x ∷ xs) = cond (leb (top xs) x) 0 (suc (largest_at xs))

-- the shares after so many units: the first of the largest remainders gets one, counts as 0 from then on, and the next is looked for
abbrev pub give_out : ℕ → List ℕ → List ℕ → List ℕ
give_out zero rests shares = shares
give_out (suc units) rests shares =
    give_out units (set rests (largest_at rests) 0) (set shares (largest_at rests) (get_or shares (largest_at rests) 0 + 1))

-- the amount shared by the weights, the units left given in that way
abbrev pub reckoned : ℕ → List ℕ → List ℕ
reckoned amount weights =
    give_out (left amount weights) (remainders amount (total weights) weights) (rounded_down amount (total weights) weights)

-- What inner functions ask

-- the amount, and the sum of the weights by which it is shared, are no larger than the machine reckons with
abbrev pub CanShare : ℕ → ℕ → Type 0
CanShare amount all = (amount < 2 ^ 63) × (0 < all) × (all < 2 ^ 62)

-- there is room for a share and a remainder of each weight
abbrev pub RoomForEach : List ℕ → List ℕ → List ℕ → Type 0
RoomForEach weights shares rests = (length shares ≡ length weights) × (length rests ≡ length weights)

-- so many units can be given: there is a remainder, one for each share, and no share grows too large
abbrev pub CanGive : ℕ → List ℕ → List ℕ → Type 0
CanGive units rests shares = (0 < length rests) × (length shares ≡ length rests) × (total shares + units < 2 ^ 64)

-- no number of a list is above m
abbrev pub NoneAbove : ℕ → List ℕ → Type 0
NoneAbove m xs = (k : ℕ) → get_or xs k 0 ≤ m
