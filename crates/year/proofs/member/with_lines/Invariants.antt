use mathlib.Core.Path.{◌≡◌}
use lib.ListN.{length, drop}
use Rattle.year.specs.Year.{most_members}
use Rattle.year.specs.Every.{with_lines}
use Rattle.year.proofs.member.with_lines.Given as goal

abbrev pub invariant-loop-line : goal.invariant-loop-line
invariant-loop-line l = (length l.members ≡ most_members) × (with_lines l.members l.month (drop l.line-index l.lines) ≡ with_lines l.initial.members l.month l.lines)
