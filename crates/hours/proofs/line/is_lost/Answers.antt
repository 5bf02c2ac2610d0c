use Rattle.std.proofs.Common.{arith}
use Rattle.hours.specs.Inner.{some_past}
use Rattle.hours.proofs.Lost.{lost_eighth, lost_cells}
use Rattle.hours.proofs.line.is_lost.Goals as goal

pub returns-then-grid-ge-COLUMNS : goal.returns-then-grid-ge-COLUMNS
returns-then-grid-ge-COLUMNS c = let a = c.args in lost_eighth a.grid a.ended c.if-grid-ge-COLUMNS.true

pub returns : goal.returns
unfolding some_past
returns c =
    let a = c.args in
    lost_cells a.grid a.ended (omega (arith, c.if-grid-ge-COLUMNS.false)) c.some_past.result c.is_past.result c.some_past.ensures c.is_past.ensures
