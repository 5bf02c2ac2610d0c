use mathlib.Core.Path.{refl}
use Prim.Native.Nat.{◌+◌}
use Rattle.le.specs.Le.{le_bytes}
use Rattle.le.proofs.Laws.{then}
use Rattle.tabs.specs.Tabs.{tab_bytes}
use Rattle.tabs.proofs.page.put_tab.Goals as goal

pub returns : goal.returns
unfolding tab_bytes le_bytes
returns c =
    let at = c.args.at in
    then (at + 8) refl
    (then (at + 6) refl
    (then (at + 4) refl (then (at + 2) refl c.put_u16.ensures c.put_u16-2.ensures) c.put_u16-3.ensures)
    c.put_u16-4.ensures)
    c.put_u16-5.ensures
