use native.Mathlib.Omega.{arith}
use Rattle.annual.specs.Texts.{foot_text}
use Rattle.annual.proofs.Rows.{most_foot_lem}
use Rattle.annual.proofs.put_foot.Goals as goal

pub fill-requires : goal.fill-requires
fill-requires c = omega (arith, most_foot_lem)

pub returns : goal.returns
unfolding foot_text
returns c = rw (most_foot_lem, c.foot_values-values.ensures) at c.fill.ensures
