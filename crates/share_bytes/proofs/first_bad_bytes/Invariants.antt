use mathlib.Core.Path.{◌≡◌}
use Prim.Native.Nat.{◌+◌}
use Rattle.share_bytes.specs.Bytes.{first_bad_bytes}
use Rattle.share_bytes.proofs.Rows.{bad_from}
use Rattle.share_bytes.proofs.first_bad_bytes.Given as goal

abbrev pub invariant-loop-i : goal.invariant-loop-i
invariant-loop-i l = l.i + bad_from l.before l.s l.i l.count ≡ first_bad_bytes 0 l.s 0 l.count
