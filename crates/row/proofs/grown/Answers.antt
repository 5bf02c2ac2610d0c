use Rattle.row.proofs.Rows.{held_more}
use Rattle.row.proofs.grown.Goals as goal

pub returns-then-v-ge-CEILING : goal.returns-then-v-ge-CEILING
returns-then-v-ge-CEILING c = let a = c.args in λ rest. held_more a.v a.b rest c.if-v-ge-CEILING.true
