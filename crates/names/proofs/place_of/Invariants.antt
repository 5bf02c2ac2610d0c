use mathlib.Core.Path.{◌≡◌}
use Prim.Native.Nat.{◌+◌, ◌-◌}
use Rattle.names.specs.Names.{place_from}
use Rattle.names.proofs.place_of.Given as goal

abbrev pub invariant-loop-n : goal.invariant-loop-n
invariant-loop-n l = place_from l.words (l.most + 1 - l.n) l.n l.text ≡ place_from l.words l.most 1 l.text
