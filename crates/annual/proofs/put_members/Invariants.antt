use mathlib.Core.Path.{◌≡◌}
use Prim.Native.Nat.{◌*◌}
use lib.ListN.{length}
use Rattle.render.specs.Inner.{Puts}
use Rattle.annual.specs.Texts.{most_line, members_text}
use Rattle.annual.proofs.put_members.Given as goal

abbrev pub invariant-loop-i : goal.invariant-loop-i
invariant-loop-i l = (length l.out ≡ length l.initial.out) × Puts (most_line * l.i) l.initial.out l.at (members_text l.members l.i) l.out l.next
