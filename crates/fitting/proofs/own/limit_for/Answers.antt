use mathlib.Core.Path.{ap, ◌∙◌}
use Prim.Native.Nat.{ℕ, ◌-◌}
use lib.Dec.{eqb}
use Rattle.fitting.specs.Fitting.{limit_for}
use Rattle.fitting.proofs.own.limit_for.Goals as goal

pub returns : goal.returns
unfolding limit_for
returns c =
    let a = c.args in
    let e = c.saturating_sub-most.ensures ∙ ap (λ (p : ℕ). p - a.uncollected.0) c.paid.ensures in
    λ i. record { none = eqb a.uncollected.0 0; fen = record { 0 = e i } }
