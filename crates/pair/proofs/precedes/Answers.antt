use mathlib.Core.Path.{sym, ◌∙◌, ap₂}
use native.Mathlib.Omega.{arith}
use lib.Dec.{ltb}
use Rattle.le.specs.Le.{IsBytes}
use Rattle.call.proofs.Bytes.{number_fits}
use Rattle.pair.proofs.Keys.{by_participant}
use Rattle.pair.proofs.precedes.Goals as goal

pub returns : goal.returns
unfolding IsBytes
returns c =
    let s = c.args in
    ap₂ ltb c.participant_at-p.ensures c.participant_at-q.ensures
    ∙ by_participant _ _ _ _ (number_fits s.x.now (λ i. omega (arith, c.type_inv.x i)) s.a)
    (number_fits s.y.now (λ i. omega (arith, c.type_inv.y i)) s.b)
    (λ e. c.if-p-q.false (c.participant_at-p.ensures ∙ e ∙ sym c.participant_at-q.ensures))
