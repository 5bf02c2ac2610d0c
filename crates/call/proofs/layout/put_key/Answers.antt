use mathlib.Core.Path.{refl}
use Prim.Native.Nat.{◌+◌}
use Rattle.le.specs.Le.{le_bytes}
use Rattle.le.proofs.Laws.{then}
use Rattle.call.specs.Layout.{key_bytes}
use Rattle.call.proofs.layout.put_key.Goals as goal

pub returns : goal.returns
unfolding key_bytes le_bytes
returns c =
    let at = c.args.at in
    then (at + 4) refl
    (then (at + 3) refl (then (at + 2) refl c.put_u16.ensures c.put_u8.ensures) c.put_u8-2.ensures)
    c.put_u32.ensures
