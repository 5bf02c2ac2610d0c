use Rattle.hours.proofs.Streaming.{starts}
use Rattle.hours.proofs.Reader.start.Goals as goal

pub returns : goal.returns
returns c =
    let a = c.args in
    let most = c.month_hours.ensures in
    starts a.member _ c.start.result _ c.start-2.result c.start.ensures
    (rw most at c.start-2.ensures)
