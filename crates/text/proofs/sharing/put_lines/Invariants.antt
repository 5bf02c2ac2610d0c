use mathlib.Core.Path.{◌≡◌}
use Prim.Native.Nat.{◌*◌}
use lib.ListN.{length, take}
use Rattle.render.specs.Inner.{Puts}
use Rattle.text.specs.Texts.{lines_text, most_line}
use Rattle.text.proofs.sharing.put_lines.Given as goal

abbrev pub invariant-loop-line : goal.invariant-loop-line
invariant-loop-line l =
    (length l.out ≡ length l.initial.out) × Puts (most_line * l.line-index) l.initial.out l.at (lines_text (take l.line-index l.lines)) l.out l.next
