use Prim.Native.Nat.{◌+◌, ◌-◌}
use Rattle.le.specs.Le.{Spelt}
use Rattle.le.proofs.number_at.Given as goal

abbrev pub invariant-loop-k : goal.invariant-loop-k
invariant-loop-k l = Spelt l.s (l.at + l.k) (l.width - l.k) l.v
