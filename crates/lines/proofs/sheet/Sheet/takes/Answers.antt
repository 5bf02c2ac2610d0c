use mathlib.Core.Path.{ap, sym, ◌∙◌}
use mathlib.Core.Bool.{Bool, ◌&&◌}
use mathlib.Core.List.{[]}
use lib.Dec.{ltb}
use Rattle.row.proofs.Judging.{fair_rises}
use Rattle.share.specs.declared.Line.{Line}
use Rattle.share.specs.Sharing.{most_number}
use Rattle.lines.specs.Text.{sharing_lines}
use Rattle.lines.specs.Meaning.{row_line}
use Rattle.lines.proofs.Lines.{lawful}
use Rattle.lines.proofs.sheet.Sheet.takes.Goals as goal

pub returns : goal.returns
returns c =
    ap (λ (t : Bool). t && ltb c.args.self.count most_number)
    (ap (λ (x : Line). ltb c.args.self.before x.number) c.line_in-l.ensures ∙ sym (fair_rises sharing_lines lawful c.args.self.before (row_line c.args.row [])))
