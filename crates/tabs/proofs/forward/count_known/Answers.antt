use Rattle.join.proofs.Taken.{lies}
use Rattle.tabs.proofs.Seeking.{is_same}
use Rattle.tabs.proofs.forward.count_known.Goals as goal

pub state_at-x-requires : goal.state_at-x-requires
state_at-x-requires c = (lies c.requires.facing.in_first (is_same _ _ _ c.requires.b_value).0).long

pub state_at-y-requires : goal.state_at-y-requires
state_at-y-requires c = let g = c.requires.facing in (lies g.in_second g.there).long
