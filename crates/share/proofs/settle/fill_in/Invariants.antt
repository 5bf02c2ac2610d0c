use mathlib.Core.Path.{◌≡◌}
use lib.ListN.{length, take}
use Rattle.apportion.proofs.Loops.{over}
use Rattle.share.specs.Sharing.{parts_by}
use Rattle.share.specs.Forms.{fill_in}
use Rattle.share.proofs.settle.fill_in.Given as goal

abbrev pub invariant-loop-i : goal.invariant-loop-i
invariant-loop-i l =
    l.lines ≡ over l.initial.lines (fill_in (parts_by l.negative l.initial.lines (take (length l.initial.lines) l.ss)) l.initial.lines) l.i
