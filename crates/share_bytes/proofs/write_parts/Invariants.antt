use mathlib.Core.Path.{◌≡◌}
use lib.ListN.{length, take}
use Rattle.le.specs.Le.{Stores}
use Rattle.share.specs.Sharing.{parts_by}
use Rattle.share_bytes.specs.Bytes.{parts_bytes}
use Rattle.share_bytes.specs.Inner.{spelt_lines}
use Rattle.share_bytes.proofs.write_parts.Given as goal

abbrev pub invariant-loop-i : goal.invariant-loop-i
invariant-loop-i l =
    (length l.out ≡ length l.initial.out) × Stores l.initial.out 0 (parts_bytes (take l.i (parts_by l.negative (spelt_lines l.s (length l.shares)) l.shares))) l.out
