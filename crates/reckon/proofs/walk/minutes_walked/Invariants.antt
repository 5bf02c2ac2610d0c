use mathlib.Core.Path.{◌≡◌}
use Prim.Native.Nat.{◌*◌, ◌≤◌}
use Rattle.pay.specs.Sum.{total}
use Rattle.reckon.specs.Reckoning.{minute_at}
use Rattle.reckon.specs.Inner.{calls_at, most_minute}
use Rattle.reckon.proofs.walk.minutes_walked.Given as goal

abbrev pub invariant-loop-minute : goal.invariant-loop-minute
invariant-loop-minute l = (l.sum ≡ total (minute_at l.member l.series (calls_at l.b l.places)) 0 l.minute) × (l.sum ≤ l.minute * most_minute)
