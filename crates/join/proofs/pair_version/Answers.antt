use Rattle.join.proofs.Versions.{pair_first, pair_second}
use Rattle.join.proofs.pair_version.Goals as goal

pub returns-then-first-second : goal.returns-then-first-second
returns-then-first-second c = pair_first _ _ _ _ c.most_records.ensures c.if-first-second.true

pub returns : goal.returns
returns c = pair_second _ _ _ _ c.most_records.ensures c.if-first-second.false
