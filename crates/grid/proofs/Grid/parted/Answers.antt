use Prim.Native.Nat.{◌+◌}
use lib.ListN.{set}
use Rattle.grid.proofs.Lines.{by_parting, by_parting_full}
use Rattle.grid.proofs.Steps.{by_separator}
use Rattle.grid.proofs.Grid.parted.Goals as goal

pub returns-then-at-ended : goal.returns-then-at-ended
returns-then-at-ended c = let g = c.args.self in
    by_separator g c.args.ended.now c.requires.in_line c.requires.separator_value (g.at + 1) (set c.args.ended.now g.at c.told.result)
    (by_parting g c.args.ended.now c.requires.in_line.clear c.if-at-ended.true c.told.result c.told.ensures)

pub returns : goal.returns
returns c = let g = c.args.self in
    by_separator g c.args.ended.now c.requires.in_line c.requires.separator_value g.at c.args.ended.now
    (by_parting_full g c.args.ended.now c.requires.in_line.clear c.requires.most_columns_in_bounds c.if-at-ended.false)
