use mathlib.Core.Path.{refl}
use Prim.Native.Nat.{◌+◌}
use Rattle.le.specs.Le.{le_bytes}
use Rattle.le.proofs.Laws.{then}
use Rattle.call.specs.Layout.{key_bytes, time_bytes, call_bytes}
use Rattle.call.proofs.layout.put_call.Goals as goal

pub returns : goal.returns
unfolding call_bytes key_bytes time_bytes le_bytes
returns c =
    let at = c.args.at in
    then (at + 16) refl (then (at + 8) refl c.put_key.ensures c.put_time.ensures) c.put_terms.ensures
