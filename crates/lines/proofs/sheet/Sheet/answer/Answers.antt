use Rattle.row.specs.Judging.{filled_up}
use Rattle.row.proofs.Judging.{answer_no, answer_yes}
use Rattle.lines.specs.Text.{sharing_lines}
use Rattle.lines.specs.Meaning.{sheet_so_far}
use Rattle.lines.proofs.Lines.{lawful}
use Rattle.lines.proofs.sheet.Sheet.answer.Goals as goal

pub returns-then-self : goal.returns-then-self
unfolding filled_up
returns-then-self c =
    answer_no sharing_lines lawful (sheet_so_far c.args.self) c.blank_lines-none.result c.blank_lines-none.ensures c.if-self.true

pub returns : goal.returns
returns c = answer_yes sharing_lines lawful (sheet_so_far c.args.self) c.if-self.false
