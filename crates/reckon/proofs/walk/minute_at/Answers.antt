use native.Mathlib.Omega.{arith}
use mathlib.Core.Path.{◌∙◌}
use Rattle.reckon.specs.Inner.{calls_at}
use Rattle.reckon.proofs.Minutes.{minute_some, minute_none}
use Rattle.reckon.proofs.walk.minute_at.Goals as goal

pub returns-in-Some : goal.returns-in-Some
returns-in-Some c =
    let a = c.args in
    let e = c.window_minute.ensures in
    (e.0 ∙ rw c.output_at.ensures (minute_some a.member a.series.now a.minute (calls_at a.b.now a.places.now) c.in-Some.x c.in-Some.ensures), e.1)

pub returns-in-None : goal.returns-in-None
returns-in-None c =
    let a = c.args in
    (minute_none a.member a.series.now a.minute (calls_at a.b.now a.places.now) c.in-None.ensures, omega arith)
