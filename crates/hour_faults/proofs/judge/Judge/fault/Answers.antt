use Rattle.std.proofs.Common.{◌∙◌}
use Rattle.hour_faults.proofs.Judging.{fault_blank, fault_columns, fault_cells}
use Rattle.hour_faults.proofs.judge.Judge.fault.Goals as goal

pub returns-then-count-eq0 : goal.returns-then-count-eq0
returns-then-count-eq0 c = let a = c.args in fault_blank a.self a.cells.now c.if-count-eq0.true

pub returns-then-count-ne-COLUMNS : goal.returns-then-count-ne-COLUMNS
returns-then-count-ne-COLUMNS c = let a = c.args in fault_columns a.self a.cells.now c.if-count-eq0.false c.if-count-ne-COLUMNS.true

pub returns : goal.returns
returns c = let a = c.args in
    c.line_fault.ensures ∙ fault_cells a.self a.cells.now c.if-count-ne-COLUMNS.false c.filled_for-n.result c.standard_for-first.result
    c.filled_for-n.ensures c.standard_for-first.ensures
