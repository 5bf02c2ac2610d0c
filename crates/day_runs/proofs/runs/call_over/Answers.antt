use Rattle.reckon.specs.Inner.{calls_at}
use Rattle.day_runs.proofs.Goes.{call_some, call_none}
use Rattle.day_runs.proofs.runs.call_over.Goals as goal

pub returns-in-Some : goal.returns-in-Some
returns-in-Some c =
    let a = c.args in
    call_some a.minute (calls_at a.b.now a.places.now) c.in-Some.x c.in-Some.ensures

pub returns-in-None : goal.returns-in-None
returns-in-None c =
    let a = c.args in
    call_none a.minute (calls_at a.b.now a.places.now) c.in-None.ensures
