use mathlib.Core.Path.{sym, ◌∙◌}
use native.Mathlib.Omega.{arith}
use Rattle.lookup.proofs.Places.{lowest_hit, lowest_other, lowest_end}
use Rattle.join.proofs.Books.{long}
use Rattle.lookup.proofs.index_of.Goals as goal

pub count_at-requires : goal.count_at-requires
count_at-requires c = long _ c.requires

pub returns-then-key_at-key : goal.returns-then-key_at-key
returns-then-key_at-key c =
    let n = c.count_at.ensures.0 in
    lowest_hit _ c.requires _ _ c.lower_than-i.ensures (omega (arith, n, c.if-i-count_at.true)) (sym c.key_at.ensures ∙ c.if-key_at-key.true)

pub returns-else-key_at-key : goal.returns-else-key_at-key
returns-else-key_at-key c =
    let n = c.count_at.ensures.0 in
    lowest_other _ c.requires _ _ c.lower_than-i.ensures (omega (arith, n, c.if-i-count_at.true)) (λ e. c.if-key_at-key.false (c.key_at.ensures ∙ e))

pub returns-else-i-count_at : goal.returns-else-i-count_at
returns-else-i-count_at c =
    let n = c.count_at.ensures.0 in
    lowest_end _ c.requires _ _ c.lower_than-i.ensures (omega (arith, n, c.if-i-count_at.false))
