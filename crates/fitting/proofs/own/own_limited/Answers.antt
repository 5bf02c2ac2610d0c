use Rattle.fitting.specs.Fitting.{own_limited}
use Rattle.fitting.proofs.own.own_limited.Goals as goal

pub returns : goal.returns
unfolding own_limited
returns c =
    λ i. record { line = c.own_line-line.ensures i; limit = c.limit_for-limit.ensures i; uncollected = record { 0 = 0 }; given = record { 0 = 0 } }
