use Rattle.pay.proofs.Signed.{zero_bits}
use Rattle.pay.proofs.open.is_zero.Goals as goal

pub returns : goal.returns
returns c = zero_bits c.args.a c.ranges.a.sfits
