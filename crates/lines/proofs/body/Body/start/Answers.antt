use Rattle.lines.proofs.Sheets.{starts}
use Rattle.lines.proofs.body.Body.start.Goals as goal

pub returns : goal.returns
returns c =
    record { says = starts c.start-row.result c.start-sheet.result c.start-row.ensures c.start-sheet.ensures }
