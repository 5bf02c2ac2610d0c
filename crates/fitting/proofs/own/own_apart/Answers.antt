use mathlib.Core.Path.{ap, ◌∙◌}
use Prim.Native.Nat.{ℕ}
use Rattle.fitting.specs.Fitting.{weight_by}
use Rattle.fitting.proofs.Cases.{own_fen, own_weight, own_fits}
use Rattle.fitting.proofs.own.own_apart.Goals as goal

pub returns-then-compensation-fen : goal.returns-then-compensation-fen
returns-then-compensation-fen c =
    let a = c.args in
    own_fen a.negative a.line a.r _ c.to_fen-fen.ensures c.if-compensation-fen.true

pub returns-then-weight-follows : goal.returns-then-weight-follows
returns-then-weight-follows c =
    let a = c.args in
    own_weight a.negative a.line a.r _ c.to_fen-fen.ensures c.if-compensation-fen.false _
    (c.weight_by-follows.ensures ∙ ap (λ (s : ℕ). weight_by a.negative s a.r.energy.0) c.status_for.ensures) c.if-weight-follows.true

pub returns : goal.returns
returns c =
    let a = c.args in
    own_fits a.negative a.line a.r _ c.to_fen-fen.ensures c.if-compensation-fen.false _
    (c.weight_by-follows.ensures ∙ ap (λ (s : ℕ). weight_by a.negative s a.r.energy.0) c.status_for.ensures) c.if-weight-follows.false
