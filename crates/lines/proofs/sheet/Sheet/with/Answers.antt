use mathlib.Core.List.{[]}
use native.Mathlib.Omega.{arith}
use Rattle.row.proofs.Judging.{with_refused, with_bad, with_full, with_sound}
use Rattle.lines.specs.Text.{sharing_lines}
use Rattle.lines.specs.Meaning.{sheet_so_far, row_line}
use Rattle.lines.proofs.Lines.{lawful}
use Rattle.lines.proofs.sheet.Sheet.with.Goals as goal

pub returns-then-self : goal.returns-then-self
returns-then-self c = with_refused sharing_lines lawful (sheet_so_far c.args.self) (row_line c.args.row []) c.if-self.true

pub returns-then-l-self : goal.returns-then-l-self
returns-then-l-self c =
    with_bad sharing_lines lawful (sheet_so_far c.args.self) (row_line c.args.row []) c.if-self.false c.line_in-l.result c.line_in-l.ensures
    (sheet_so_far c.refuse.result) c.refuse.ensures c.if-l-self.true

pub returns-then-at-ge-MOST_LINES : goal.returns-then-at-ge-MOST_LINES
returns-then-at-ge-MOST_LINES c =
    with_full sharing_lines lawful (sheet_so_far c.args.self) (row_line c.args.row []) c.if-self.false
    (sheet_so_far c.refuse-then-at-ge-MOST_LINES.result) c.refuse-then-at-ge-MOST_LINES.ensures c.if-at-ge-MOST_LINES.true

pub returns : goal.returns
returns c =
    with_sound sharing_lines lawful (sheet_so_far c.args.self) (row_line c.args.row []) c.if-self.false c.line_in-l.result c.line_in-l.ensures
    c.if-l-self.false (omega (arith, c.if-at-ge-MOST_LINES.false))
