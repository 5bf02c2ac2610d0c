use Rattle.pay.specs.Rate.{avc_rate}
use Rattle.pay.proofs.rate.avc_rate.Goals as goal

pub returns-then-c-b : goal.returns-then-c-b
unfolding avc_rate
returns-then-c-b c = simp c.if-c-b.true

pub returns : goal.returns
unfolding avc_rate
returns c = simp c.if-c-b.false
