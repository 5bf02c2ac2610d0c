use mathlib.Core.Path.{◌≡◌}
use lib.ListN.{length, drop}
use lib.Seq.{sets}
use Rattle.text.specs.Texts.{shown_name}
use Rattle.text.proofs.told.put_shown.Given as goal

abbrev pub invariant-loop-k : goal.invariant-loop-k
invariant-loop-k l = (length l.out ≡ length l.initial.out) × (sets l.out l.k (drop l.k (shown_name l.name)) ≡ sets l.initial.out 0 (shown_name l.name))
