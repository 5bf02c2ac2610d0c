-- How much room a series takes. Assumes nothing.
use Rattle.std.specs.Prelude.{ℕ, ◌≤◌, Option, Some, None}

-- the quarter hours of 31 days, and one place more
abbrev pub series_room : ℕ
series_room = 2977

-- what was read is no more than there was room for
abbrev pub ReadsWithin : ℕ → Option ℕ → Type 0
ReadsWithin n (Some k) = k ≤ n
ReadsWithin n None = Unit {0}
