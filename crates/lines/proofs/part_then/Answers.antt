use mathlib.Core.Path.{sym, ◌∙◌}
use Rattle.lines.proofs.Parts.{part_fair, part_past}
use Rattle.lines.proofs.part_then.Goals as goal

pub returns-then-part-gt-MOST_PART : goal.returns-then-part-gt-MOST_PART
returns-then-part-gt-MOST_PART c =
    (λ i. record { number = 10; place = 65; count = 0; lines = c.blank_lines-lines.ensures i; part = 0 }) ∙ sym (part_past c.args.part c.args.listed c.if-part-gt-MOST_PART.true)

pub returns : goal.returns
returns c = sym (part_fair c.args.part c.args.listed c.if-part-gt-MOST_PART.false)
