use mathlib.Core.Path.{◌≡◌}
use Prim.Native.Nat.{◌*◌, ◌≤◌}
use lib.IntN.{nat_abs, ◌+ℤ◌}
use lib.ListN.{drop}
use Rattle.year.specs.Year.{most_either_way, lines_are_sound, sumℤ, amounts_of}
use Rattle.year.proofs.judging.lines_add_up.Given as goal

abbrev pub invariant-loop-line : goal.invariant-loop-line
invariant-loop-line l =
    (nat_abs l.sum.0 ≤ l.line-index * most_either_way) × (lines_are_sound l.before (drop l.line-index l.lines) ≡ lines_are_sound 0 l.lines)
    × (l.sum.0 +ℤ sumℤ (amounts_of (drop l.line-index l.lines)) ≡ sumℤ (amounts_of l.lines))
