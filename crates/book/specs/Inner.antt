-- What inner contracts speak of, and no sentence of the paper. Assumes nothing.
use Rattle.std.specs.Prelude.{ℕ}

-- sizes and places are numbers of 64 bits
abbrev pub word_limit : ℕ
word_limit = 18446744073709551616
