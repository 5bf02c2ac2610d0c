use mathlib.Core.Path.{◌≡◌}
use Rattle.reckon.specs.Inner.{calls_at, first_over}
use Rattle.reckon.proofs.Minutes.{left}
use Rattle.reckon.proofs.windows.first_over.Given as goal

abbrev pub invariant-loop-place : goal.invariant-loop-place
invariant-loop-place l = first_over (calls_at l.b l.places) l.minute ≡ left l.b l.places l.minute l.place-index
