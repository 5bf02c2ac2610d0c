use Rattle.row.specs.Judging.{filled_up}
use Rattle.row.proofs.Judging.{judged_start}
use Rattle.lines.specs.Text.{sharing_lines}
use Rattle.lines.proofs.sheet.Sheet.start.Goals as goal

pub returns : goal.returns
unfolding filled_up
returns c = judged_start sharing_lines c.blank_lines-lines.result c.blank_lines-lines.ensures
