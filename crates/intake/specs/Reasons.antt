-- Why a text is not taken, for people. Assumes nothing.
use Rattle.std.specs.Prelude.{◌≡◌, cond, not, ◌&&◌, List, ℕ, Option, Some, None, Ok, Err, eqb, leb}
use Rattle.month.specs.declared.Statement.{Statement}
use Rattle.posted.specs.Reading.{Posted, ReadPosted}
use Rattle.year.specs.Year.{lines_in, adds_to_zero}
use Rattle.intake.specs.declared.Intake.{Intake}
use Rattle.intake.specs.declared.Reason.{Reason}
use Rattle.intake.specs.declared.Reason.TheVariants.{NotLine, Beyond, OtherArea, OtherYear, NotLater, NotZero}
use Rattle.intake.specs.Limits.{line_beyond, statement_is_within}
use Rattle.intake.specs.Intake.{month_statement}

-- of a statement within the limits, behind those that were taken: its area, its year, its month, its amounts; or nothing is wrong
unfoldable pub reason_in : Intake → Statement → Option Reason
reason_in g s =
    cond (not (eqb g.area 0) && not (eqb s.header.area g.area)) (Some (OtherArea s.header.area))
    (cond (not (eqb g.year.count 0) && not (eqb s.header.year g.year.year)) (Some (OtherYear s.header.year))
    (cond (leb s.header.month g.year.month) (Some (NotLater s.header.month))
    (cond (adds_to_zero (lines_in (month_statement s)) s.user.0) None (Some NotZero))))

-- of a statement
unfoldable pub reason_whole : Intake → Statement → Option Reason
reason_whole g s = cond (statement_is_within s) (reason_in g s) (Some (Beyond (line_beyond s)))

-- of a text that was read: the line that is none of a statement, or what is wrong with the statement
unfoldable pub reason_of : Intake → Posted → Option Reason
reason_of g (Ok s) = reason_whole g s
reason_of g (Err line) = Some (NotLine line)

-- a text has a reason, or none: it reads so, and this is wrong with it
pub record GivesReason (text : List ℕ) (g : Intake) (r : Option Reason) : Type 0 where
  pub posted : Posted
  pub read : ReadPosted text posted
  pub is : r ≡ reason_of g posted
