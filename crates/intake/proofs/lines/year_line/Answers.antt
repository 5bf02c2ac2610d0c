use borrow.Author.Rules.{rules}
use Rattle.intake.specs.Intake.{year_line}
use Rattle.intake.proofs.lines.year_line.Goals as goal

pub returns : goal.returns
unfolding year_line
returns c = search rules
