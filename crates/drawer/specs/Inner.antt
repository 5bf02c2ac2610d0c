-- What inner contracts speak of, and no sentence of the paper. Assumes nothing.
use Rattle.std.specs.Prelude.{Bool, true, false, cond, List, ℕ, Option, Some, None}
use Rattle.rule.specs.declared.Decision.{Decision}
use Rattle.rule.specs.declared.Decision.TheVariants.{First, Second, Struck}
use Rattle.drawer.specs.declared.stale.StaleRecord.{StaleRecord}
use Rattle.drawer.specs.Stale.{is_stale_at, stale_at}

-- the first of two records stands
unfoldable pub is_first : Decision → Bool
is_first First = true
is_first Second = false
is_first Struck = false

-- what is told of record k of a book, where it is listed
abbrev pub turn_of : List ℕ → List ℕ → ℕ → Option StaleRecord
turn_of book joined k = cond (is_stale_at book joined k) (Some (stale_at book joined k)) None
