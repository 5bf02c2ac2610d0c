use mathlib.Core.Path.{sym, ◌∙◌}
use Rattle.intake.proofs.Texts.{few, stands, stands_not, stands_bad}
use Rattle.intake.proofs.as_statement.Goals as goal

pub returns-in_default : goal.returns-in_default
returns-in_default c = c.blank_statement.ensures ∙ stands_bad _ _ _ c.in_default.is

pub is_taken-requires : goal.is_taken-requires
is_taken-requires c = few c.in-Ok.is c.requires

pub returns-then-not-is_taken : goal.returns-then-not-is_taken
returns-then-not-is_taken c = c.blank_statement-then-not-is_taken.ensures ∙ stands_not _ _ _ c.in-Ok.is (sym c.is_taken.ensures ∙ c.if-not-is_taken.true)

pub returns : goal.returns
returns c = c.month_statement.ensures ∙ stands _ _ _ c.in-Ok.is (sym c.is_taken.ensures ∙ c.if-not-is_taken.false)
