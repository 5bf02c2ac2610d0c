use mathlib.Core.Path.{sym, ap, ◌∙◌}
use Prim.Native.Nat.{ℕ, ◌+◌}
use lib.Dec.{eqb}
use Rattle.le.specs.Le.{le_at}
use Rattle.share_bytes.specs.Bytes.{reserved_zero}
use Rattle.share_bytes.proofs.Rows.{four_bad, four_good}
use Rattle.share_bytes.proofs.reserved_zero.Goals as goal

pub returns-then-four-ne0 : goal.returns-then-four-ne0
unfolding reserved_zero
returns-then-four-ne0 c =
    let a = c.args in
    four_bad (le_at a.s.now (a.at + 3) 1) (le_at a.s.now (a.at + 20) 4) (λ e. c.if-four-ne0.true (c.u32_at-four.ensures ∙ e))

pub returns : goal.returns
unfolding reserved_zero
returns c =
    let a = c.args in
    ap (λ (n : ℕ). eqb n 0) c.u8_at.ensures
    ∙ four_good (le_at a.s.now (a.at + 3) 1) (le_at a.s.now (a.at + 20) 4) (sym c.u32_at-four.ensures ∙ c.if-four-ne0.false)
