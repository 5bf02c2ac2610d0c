-- What the promises speak of: the months that a member is present in. Assumes nothing.
use Rattle.std.specs.Prelude.{◌≡◌, cond, ℕ, eqb}
use mathlib.Core.List.{List, [], ◌∷◌, Memᴰ as In}
use Rattle.year.specs.declared.YearLine.{YearLine}
use Rattle.year.specs.declared.MonthStatement.{MonthStatement}
use Rattle.year.specs.Year.{lines_in, MonthLine}
use Rattle.year.specs.Verdict.{blank_line}

-- among statements, one has the line of a member, with its month
pub record LineOf (ss : List MonthStatement) (number : ℕ) (e : MonthLine) : Type 0 where
  pub statement : MonthStatement
  pub given : In statement ss
  pub month : e.month ≡ statement.month
  pub line : In e.line (lines_in statement)
  pub own : e.line.number ≡ number

-- the member's line among some, or a line of zeros where it has none
unfoldable pub own_line : ℕ → List YearLine → YearLine
own_line number [] = blank_line
own_line number (l ∷ ls) = cond (eqb l.number number) l (own_line number ls)
