use mir.Syntax.{w32}
use mir.Val.{SFits}
use Rattle.le.proofs.Signs.{stores_signed}
use mathlib.Core.Path.{refl}
use Prim.Native.Nat.{◌+◌}
use Rattle.le.specs.Le.{le_bytes}
use Rattle.le.proofs.Laws.{then}
use Rattle.call.specs.Layout.{term_bytes}
use borrow.Author.Rules.{rules}
use Rattle.call.proofs.layout.put_terms.Goals as goal

pub returns : goal.returns
unfolding term_bytes le_bytes
returns c =
    let at = c.args.at in
    let fits : SFits w32 c.args.x.a = search rules in
    let a = stores_signed w32 4 _ fits refl c.put_i32.ensures in
    then (at + 12) refl (then (at + 8) refl (then (at + 4) refl a c.put_u32.ensures) c.put_u32-2.ensures) c.put_u32-3.ensures
