-- Every number of a statement's text, held to its limit. Assumes nothing.
use Rattle.std.specs.Prelude.{Bool, cond, ◌&&◌, List, [], ◌∷◌, ℕ, suc, ◌+◌, ◌*◌, eqb, ltb, leb, ℤ, nat_abs, take}
use Rattle.units.specs.Money.{grains_to_fen}
use Rattle.book.specs.declared.Header.{Header}
use Rattle.book.specs.Book.{most_keys}
use Rattle.book.specs.Check.{header_is_sound}
use Rattle.share.specs.Sharing.{most_energy, most_compensation, most_part, numbers_are_sound}
use Rattle.month.specs.declared.Row.{Row}
use Rattle.month.specs.declared.Statement.{Statement}
use Rattle.year.specs.Year.{most_either_way, is_within}

-- the first line: area 1 to 99, year and month in their ranges, no more calls than a book has, a part of at most 10,000
unfoldable pub head_is_within : Header → ℕ → ℕ → Bool
head_is_within h calls part = header_is_sound h && leb calls most_keys && leb part most_part

-- the hours of 31 days: no month has more
abbrev pub most_hours : ℕ
most_hours = 744

-- the largest factor of a weight is 12
abbrev pub most_weight : ℕ
most_weight = 12 * most_energy

-- a member's line after the number `before`: number, energy, compensation and assessment as a sharing line has them, whose status is not told; no more hours than a
-- month has; grains whose fen is within a compensation's limit; a weight; a share, what is not collected, what is given up and an amount of at most 2 × 10^11 fen either way
unfoldable pub row_is_within : ℕ → Row → Bool
row_is_within before r =
    numbers_are_sound before r.number 0 r.energy.0 r.compensation.0 r.assessment.0
    && leb r.hours most_hours && leb (grains_to_fen r.grains.0) most_compensation && leb r.weight most_weight
    && is_within r.share.0 && leb r.uncollected.0 most_either_way && leb r.given.0 most_either_way && is_within r.amount.0

-- R is at most 10^11 fen either way, as the sum of all compensations is
unfoldable pub gap_is_within : ℤ → Bool
gap_is_within gap = leb (nat_abs gap) most_compensation

-- the place of the first member's line that is beyond a limit, or the number of lines where none is
unfoldable pub first_beyond : ℕ → List Row → ℕ
first_beyond before [] = 0
first_beyond before (r ∷ rs) = cond (row_is_within before r) (suc (first_beyond r.number rs)) 0

-- THE FIRST LINE OF THE TEXT THAT IS BEYOND A LIMIT: the first one, a member's, that of R, the user's; or where none is, the number of lines
unfoldable pub line_beyond : Statement → ℕ
line_beyond s =
    cond (head_is_within s.header s.calls s.part)
    (cond (ltb (first_beyond 0 (take s.count s.rows)) s.count)
    (1 + first_beyond 0 (take s.count s.rows))
    (cond (gap_is_within s.gap.0) (cond (is_within s.user.0) (3 + s.count) (2 + s.count)) (1 + s.count)))
    0

-- none is
unfoldable pub statement_is_within : Statement → Bool
statement_is_within s = eqb (line_beyond s) (3 + s.count)
