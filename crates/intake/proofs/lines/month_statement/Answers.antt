use Rattle.intake.specs.Intake.{month_statement}
use Rattle.intake.proofs.lines.month_statement.Goals as goal

pub returns : goal.returns
unfolding month_statement
returns c =
    let s = c.args.s in
    λ i. record { year = s.header.year; month = s.header.month; count = s.count; lines = c.year_lines-lines.ensures i; user = s.user }
