-- The texts of monthly statements, taken into a year: what each stands for, and the year of them. Assumes nothing.
use Rattle.std.specs.Prelude.{◌≡◌, Bool, cond, ◌&&◌, List, [], ◌∷◌, map, ℕ, Ok, Err, eqb}
use Rattle.month.specs.declared.Row.{Row}
use Rattle.month.specs.declared.Statement.{Statement}
use Rattle.posted.specs.Reading.{Posted, ReadPosted}
use Rattle.year.specs.declared.YearLine.{YearLine}
use Rattle.year.specs.declared.MonthStatement.{MonthStatement}
use Rattle.year.specs.Year.{year_of}
use Rattle.year.specs.Verdict.{blank_statement}
use Rattle.year.specs.Every.{year_with}
use Rattle.intake.specs.declared.Intake.{Intake}
use Rattle.intake.specs.Limits.{statement_is_within}

-- A statement's own numbers, as the year takes them

unfoldable pub year_line : Row → YearLine
year_line r = record { number = r.number; compensation = r.compensation; assessment = r.assessment; share = r.share; amount = r.amount }

abbrev pub year_lines : List Row → List YearLine
year_lines rows = map year_line rows

unfoldable pub month_statement : Statement → MonthStatement
month_statement s = record { year = s.header.year; month = s.header.month; count = s.count; lines = year_lines s.rows; user = s.user }

-- What a text stands for

-- the area that texts are held to once this one is read: the first one's
unfoldable pub area_after : ℕ → Posted → ℕ
area_after area (Ok s) = cond (eqb area 0) s.header.area area
area_after area (Err line) = area

-- a statement is of that area, within the limits
unfoldable pub is_taken : ℕ → Statement → Bool
is_taken area s = eqb s.header.area area && statement_is_within s

-- it stands for its own numbers, or for a statement of no month, which no year takes
unfoldable pub as_statement : ℕ → Posted → MonthStatement
as_statement area (Ok s) = cond (is_taken area s) (month_statement s) blank_statement
as_statement area (Err line) = blank_statement

-- The year of texts

-- what texts stand for, one after another, where those before them are held to an area
unfoldable pub statements_from : ℕ → List Posted → List MonthStatement
statements_from area [] = []
statements_from area (p ∷ ps) = as_statement (area_after area p) p ∷ statements_from (area_after area p) ps

-- the area that all are held to, 0 before any
unfoldable pub area_from : ℕ → List Posted → ℕ
area_from area [] = area
area_from area (p ∷ ps) = area_from (area_after area p) ps

-- THE YEAR OF TEXTS that were read so: that of the statements which they stand for
unfoldable pub intake_of : List Posted → Intake
intake_of ps = record { year = year_of (statements_from 0 ps); area = area_from 0 ps }

-- before any text
abbrev pub no_texts : Intake
no_texts = intake_of []

-- how every intake goes on, also one that comes from no texts
unfoldable pub intake_with : Intake → Posted → Intake
intake_with g p = record { year = year_with g.year (as_statement (area_after g.area p) p); area = area_after g.area p }

-- a text taken: it reads so; behind texts that were taken the intake is that of them all
pub record TakesText (text : List ℕ) (g r : Intake) : Type 0 where
  pub posted : Posted
  pub read : ReadPosted text posted
  pub is : r ≡ intake_with g posted
