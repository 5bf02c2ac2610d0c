use mathlib.Core.Path.{◌∙◌, ap}
use Rattle.reckon.specs.Inner.{calls_at}
use Rattle.reckon.proofs.Places.{places_placed, calls_there}
use Rattle.reckon.proofs.walk.walked.Goals as goal

pub minutes_walked-requires : goal.minutes_walked-requires
minutes_walked-requires c =
    let f = c.windows_of-windows.ensures in
    record {
      rated_le_most_rated = c.requires.rated_le_most_rated;
      placed = rw f.places (places_placed c.args.member c.args.service c.args.b.now c.args.n c.requires.n_in_bounds);
      minutes_le_most_minutes = c.requires.minutes_le_most_minutes;
    }

pub returns : goal.returns
returns c =
    let a = c.args in
    let f = c.windows_of-windows.ensures in
    let e = ap (calls_at a.b.now) f.places ∙ calls_there a.member a.service a.b.now a.n in
    (rw (← e) c.minutes_walked.ensures.0, c.minutes_walked.ensures.1)
