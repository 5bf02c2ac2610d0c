-- The series: one mean output in kW, 0 to 5,000,000, for each quarter hour of the month. Assumes nothing.
use Rattle.std.specs.Prelude.{cond, not, List, ℕ, eqb, ltb, get_or, length}
use Rattle.book.specs.declared.Verdict.{Verdict}
use Rattle.book.specs.Check.{refused, accepted}
use Rattle.score.specs.First.{first_nonzero}

-- the largest output, in kW
abbrev pub most_output : ℕ
most_output = 5000000

-- the place of a series that has not the month's length: no index
abbrev pub length_place : ℕ
length_place = 65535

-- 11 where value i is above the limit
unfoldable pub too_much : List ℕ → ℕ → ℕ
too_much series i = cond (ltb most_output (get_or series i 0)) 11 0

-- the lowest index of a value above the limit, or the length
unfoldable pub first_too_much : List ℕ → ℕ
first_too_much series = first_nonzero (too_much series) (length series)

-- 11: the length, then the lowest bad index
unfoldable pub series_fault : List ℕ → ℕ → Verdict
series_fault series quarters =
    cond (not (eqb (length series) quarters)) (refused 11 length_place)
    (cond (ltb (first_too_much series) (length series)) (refused 11 (first_too_much series))
    accepted)
