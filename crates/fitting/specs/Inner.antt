-- What inner contracts speak of. Assumes nothing.
use Rattle.std.specs.Prelude.{List, map}
use Rattle.ceiling.specs.declared.LimitedLine.{LimitedLine}
use Rattle.ceiling.specs.Ceiling.{CeiledPart}
use Rattle.month.specs.Inner.{got_in}

-- what lines got that are filled in
abbrev pub got_of : List LimitedLine → List CeiledPart
got_of ls = map (λ l. got_in l) ls
