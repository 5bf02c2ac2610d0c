use mathlib.Core.Path.{◌≡◌, ap, sym, ◌∙◌}
use mathlib.Core.List.{◌∷◌}
use Prim.Native.Nat.{ℕ, suc, ◌+◌, ◌-◌}
use native.Mathlib.Omega.{arith}
use Rattle.lines.specs.Meaning.{row_line, zeros}
use Rattle.lines.proofs.line.best.Goals as goal

pub loop-column-preserved : goal.loop-column-preserved
loop-column-preserved c =
    let one : 4 - c.loop-column._column ≡ suc (4 - (c.loop-column._column + 1)) = omega (arith, c.loop-column-test.true) in
    c.stepped-row.ensures.line (zeros (4 - (c.loop-column._column + 1))) ∙ c.stepped-parted.ensures.line (48 ∷ zeros (4 - (c.loop-column._column + 1)))
    ∙ ap (λ (n : ℕ). row_line c.loop-column.row (zeros n)) (sym one) ∙ c.loop-column.invariant
