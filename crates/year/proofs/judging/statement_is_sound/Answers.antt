use mathlib.Core.Path.{sym, ◌∙◌}
use Rattle.year.proofs.Statements.{undated, too_many, user_beyond, by_lines}
use Rattle.year.proofs.judging.statement_is_sound.Goals as goal

pub returns-then-not-date_is_sound : goal.returns-then-not-date_is_sound
returns-then-not-date_is_sound c = undated c.args.s (sym c.date_is_sound.ensures ∙ c.if-not-date_is_sound.true)

pub returns-then-count-gt-MOST_MEMBERS : goal.returns-then-count-gt-MOST_MEMBERS
returns-then-count-gt-MOST_MEMBERS c = too_many c.args.s c.if-count-gt-MOST_MEMBERS.true

pub returns-then-not-is_within : goal.returns-then-not-is_within
returns-then-not-is_within c = user_beyond c.args.s (sym c.is_within.ensures ∙ c.if-not-is_within.true)

pub returns : goal.returns
returns c =
    c.lines_add_up.ensures
    ∙ by_lines c.args.s (sym c.date_is_sound.ensures ∙ c.if-not-date_is_sound.false) c.if-count-gt-MOST_MEMBERS.false (sym c.is_within.ensures ∙ c.if-not-is_within.false)
