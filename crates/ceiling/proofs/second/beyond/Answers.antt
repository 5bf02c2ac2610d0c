use mathlib.Core.Path.{ap, ◌∙◌}
use Prim.Native.Nat.{ℕ, ◌-◌}
use Rattle.ceiling.proofs.Signs.{beyond_unlimited, beyond_is}
use Rattle.ceiling.proofs.second.beyond.Goals as goal

pub returns-then-l : goal.returns-then-l
returns-then-l c = let a = c.args in beyond_unlimited a.l a.amount.0 c.if-l.true

pub returns : goal.returns
returns c =
    let a = c.args in
    beyond_is a.l a.amount.0 _ c.if-l.false (c.saturating_sub.ensures ∙ ap (λ (p : ℕ). p - a.l.fen.0) c.paid-p.ensures)
