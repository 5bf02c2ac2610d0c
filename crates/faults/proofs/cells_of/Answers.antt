use Rattle.std.proofs.Common.{◌≡◌, length, arith, rules}
use Rattle.faults.proofs.Judging.{cells_full, cells_more}
use Rattle.faults.proofs.cells_of.Goals as goal

pub returns-then-at-ge-MOST_COLUMNS : goal.returns-then-at-ge-MOST_COLUMNS
returns-then-at-ge-MOST_COLUMNS c = let a = c.args in let room : length a.ended ≡ 8 = search rules in
    record { few = omega arith; some = omega arith; are = cells_full a.grid a.ended room c.if-at-ge-MOST_COLUMNS.true }

pub returns : goal.returns
returns c = let a = c.args in let room : length a.ended ≡ 8 = search rules in
    record { few = omega arith; some = omega arith; are = cells_more a.grid a.ended room c.if-at-ge-MOST_COLUMNS.false c.told.result c.told.ensures }
