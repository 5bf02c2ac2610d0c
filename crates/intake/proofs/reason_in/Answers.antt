use mathlib.Core.Path.{sym, ap, ◌∙◌}
use Rattle.year.specs.Year.{statement_is_sound}
use Rattle.intake.proofs.Why.{other_area, other_year, not_later, not_zero, nothing}
use Rattle.intake.proofs.Sound.{sound_zero}
use Rattle.intake.proofs.reason_in.Goals as goal

pub returns-then-g-header : goal.returns-then-g-header
returns-then-g-header c = let a = c.args in other_area a.g a.s c.if-g-header.true

pub returns-then-y-header : goal.returns-then-y-header
returns-then-y-header c = let a = c.args in other_year a.g a.s c.if-g-header.false c.if-y-header.true

pub returns-then-header-y : goal.returns-then-header-y
returns-then-header-y c =
    let a = c.args in not_later a.g a.s
    c.if-g-header.false c.if-y-header.false c.if-header-y.true

pub returns-then-not-statement_is_sound : goal.returns-then-not-statement_is_sound
returns-then-not-statement_is_sound c =
    let e = c.statement_is_sound.ensures ∙ ap statement_is_sound c.month_statement.ensures ∙ sound_zero c.args.s c.requires.count_le_most_entries c.requires.s_value in
    not_zero c.args.g c.args.s c.if-g-header.false
    c.if-y-header.false c.if-header-y.false (sym e ∙ c.if-not-statement_is_sound.true)

pub returns : goal.returns
returns c =
    let e = c.statement_is_sound.ensures ∙ ap statement_is_sound c.month_statement.ensures ∙ sound_zero c.args.s c.requires.count_le_most_entries c.requires.s_value in
    nothing c.args.g c.args.s c.if-g-header.false c.if-y-header.false
    c.if-header-y.false (sym e ∙ c.if-not-statement_is_sound.false)
