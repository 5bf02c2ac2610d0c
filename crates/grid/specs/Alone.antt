-- A number in a text of its own, as an argument is: digits and nothing else. Assumes nothing.
use Rattle.std.specs.Prelude.{cond, List, ℕ, Option, Some, None}
use Rattle.row.specs.Numbers.{is_number, value, hold}

-- what a text says: its decimal number, held; anything else is none
unfoldable pub told_of : List ℕ → Option ℕ
told_of text = cond (is_number text) (Some (hold (value 0 text))) None
