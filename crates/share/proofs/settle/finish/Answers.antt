use mathlib.Core.Path.{ap, sym, ◌∙◌}
use mathlib.Core.Bool.{Bool}
use Prim.Native.Nat.{ℕ, ◌+◌}
use native.Mathlib.Omega.{arith}
use lib.IntN.{pos, ◌+ℤ◌, ◌-ℤ◌}
use Rattle.share.specs.Sharing.{signed, assessment_fen}
use Rattle.share.proofs.Bounds.{fen_le}
use Rattle.share.proofs.Lines.{filled_is}
use Rattle.share.proofs.Signs.{share_down, amount_down}
use Rattle.share.proofs.settle.finish.Goals as goal

pub overflow_add-f : goal.overflow_add-f
overflow_add-f c =
    let f = c.to_fen-f.ensures in
    record { fits = omega (arith, f, fen_le c.args.l c.requires.line_within, c.requires.s_le_most_compensation) }

pub difference-requires-then-negative : goal.difference-requires-then-negative
difference-requires-then-negative c =
    let f = c.to_fen-f.ensures in record {
      a_bound = omega (arith, c.requires.line_within.compensation);
      b_bound = omega
          (arith, f, fen_le c.args.l c.requires.line_within, c.requires.s_le_most_compensation);
    }

pub difference-requires-else-negative-2 : goal.difference-requires-else-negative-2
difference-requires-else-negative-2 c =
    let f = c.to_fen-f.ensures in record {
      a_bound = omega (arith, c.requires.line_within.compensation, c.requires.s_le_most_compensation);
      b_bound = omega
          (arith, f, fen_le c.args.l c.requires.line_within);
    }

pub returns-then-negative : goal.returns-then-negative
returns-then-negative c =
    let a = c.args in
    let l = a.l in
    let s = a.s.0 in
    c.filled.ensures ∙ filled_is a.negative l s _ _
    (c.difference.ensures ∙ share_down s ∙ ap (λ (b : Bool). signed b s) (sym c.if-negative.true))
    (c.difference-then-negative.ensures ∙ ap (λ (f : ℕ). pos l.compensation.0 -ℤ pos (f + s)) c.to_fen-f.ensures
    ∙ amount_down l.compensation.0 (assessment_fen l) s
    ∙ ap (λ (b : Bool). pos l.compensation.0 -ℤ pos (assessment_fen l) +ℤ signed b s) (sym c.if-negative.true))
