-- What an inner contract speaks of. Assumes nothing.
use Rattle.std.specs.Prelude.{cond, ℕ, ◌-◌, eqb}
use Rattle.names.specs.Names.{blank}

-- how many words are left to pass over after a byte: one fewer behind a blank
abbrev pub stepped : ℕ → ℕ → ℕ
stepped left b = cond (eqb b blank) (left - 1) left
