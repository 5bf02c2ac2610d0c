use mathlib.Core.Path.{◌≡◌, sym, ◌∙◌}
use lib.ListN.{length}
use Rattle.lines.proofs.Lines.{five_sound, five_bad}
use borrow.Author.Rules.{rules}
use Rattle.lines.proofs.line.typed.Goals as goal

pub returns-then-numbers_are_sound : goal.returns-then-numbers_are_sound
returns-then-numbers_are_sound c =
    let long : length c.args.ended ≡ 5 = search rules in
    five_sound c.args.ended c.args.assessed long (sym c.numbers_are_sound.ensures ∙ c.if-numbers_are_sound.true)

pub returns : goal.returns
returns c =
    let long : length c.args.ended ≡ 5 = search rules in
    c.blank_line.ensures ∙ five_bad c.args.ended c.args.assessed long (sym c.numbers_are_sound.ensures ∙ c.if-numbers_are_sound.false)
