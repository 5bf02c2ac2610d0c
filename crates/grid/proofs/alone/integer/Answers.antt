use mathlib.Core.Path.{refl}
use native.Mathlib.Omega.{arith}
use Rattle.grid.proofs.Integers.{text_none, text_below, text_above}
use Rattle.grid.proofs.alone.integer.Goals as goal

pub returns-then-n-eq0 : goal.returns-then-n-eq0
returns-then-n-eq0 c = text_none _ (omega arith)

pub returns-then-text-eq45 : goal.returns-then-text-eq45
returns-then-text-eq45 c =
    let text = c.args.text.now in
    text_below text c.number.result _ c.with_sign.result c.with_sign.ensures (omega arith) refl (omega arith) c.number.ensures

pub returns : goal.returns
returns c =
    let text = c.args.text.now in
    text_above text c.number-2.result _ c.with_sign-2.result c.with_sign-2.ensures (omega arith) refl (λ e. omega arith) c.number-2.ensures
