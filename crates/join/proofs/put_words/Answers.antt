use mathlib.Core.Path.{refl}
use Prim.Native.Nat.{◌+◌}
use Rattle.le.specs.Le.{le_bytes}
use Rattle.le.proofs.Laws.{then}
use Rattle.join.proofs.put_words.Goals as goal

pub returns : goal.returns
unfolding le_bytes
returns c =
    let at = c.args.at in
    then (at + 24) refl (then (at + 16) refl (then (at + 8) refl c.put_u64.ensures c.put_u64-2.ensures) c.put_u64-3.ensures) c.put_u64-4.ensures
