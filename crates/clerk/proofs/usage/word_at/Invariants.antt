use Prim.Native.Nat.{◌≤◌}
use lib.ListN.{length}
use Rattle.clerk.proofs.usage.word_at.Given as goal

abbrev pub invariant-loop : goal.invariant-loop
invariant-loop l = l.at ≤ length l.usage
