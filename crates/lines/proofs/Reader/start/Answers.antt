use Rattle.lines.proofs.Parts.{starts_reader}
use Rattle.lines.proofs.Reader.start.Goals as goal

pub returns : goal.returns
returns c = record { says = starts_reader c.start-first.result c.start-body.result c.start-first.ensures c.start-body.ensures }
