use mathlib.Core.Path.{sym, ◌∙◌}
use Rattle.posted.proofs.Signing.{through, minus_reads, plus_reads}
use native.Mathlib.Omega.{arith}
use Rattle.posted.proofs.taken.read_signed.Goals as goal

pub returns-then-starts_minus : goal.returns-then-starts_minus
returns-then-starts_minus c =
    minus_reads _ _ _ _ _ (sym c.starts_minus.ensures ∙ c.if-starts_minus.true) c.behind.ensures c.read_number-size.ensures
    (λ h l. through _ _ (record { sfits = omega arith }) (c.negative.ensures h l))

pub returns : goal.returns
returns c =
    plus_reads _ _ _ _ (sym c.starts_minus.ensures ∙ c.if-starts_minus.false) c.read_number-size-2.ensures
    (λ h. through _ _ (record { sfits = h }) (c.positive.ensures h))
