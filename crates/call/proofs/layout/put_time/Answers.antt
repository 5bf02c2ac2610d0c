use mathlib.Core.Path.{refl}
use Prim.Native.Nat.{◌+◌}
use Rattle.le.specs.Le.{le_bytes}
use Rattle.le.proofs.Laws.{then}
use Rattle.call.specs.Layout.{time_bytes}
use Rattle.call.proofs.layout.put_time.Goals as goal

pub returns : goal.returns
unfolding time_bytes le_bytes
returns c =
    let at = c.args.at in
    then (at + 6) refl (then (at + 4) refl c.put_u32.ensures c.put_u16.ensures) c.put_u16-2.ensures
