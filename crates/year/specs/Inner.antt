-- What the inner contracts speak of besides, and no sentence of the request. Assumes nothing.
use Rattle.std.specs.Prelude.{ℕ, ◌*◌}
use Rattle.year.specs.Year.{most_either_way}

-- no sum of a statement's amounts, and none of a year's, is further from zero
abbrev pub most_sum : ℕ
most_sum = 100 * most_either_way
