use mathlib.Core.Path.{sym, ◌∙◌}
use Rattle.tables.proofs.Judging.{by_heading, by_blank, by_held, by_row}
use Rattle.tables.proofs.roll.Roll.after.Goals as goal

pub returns-then-is_heading : goal.returns-then-is_heading
returns-then-is_heading c = let a = c.args in by_heading a.self a.grid a.ended (sym c.is_heading.ensures ∙ c.if-is_heading.true)

pub returns-then-is_blank : goal.returns-then-is_blank
returns-then-is_blank c = let a = c.args in
    by_blank a.self a.grid a.ended (sym c.is_heading.ensures ∙ c.if-is_heading.false) (sym c.is_blank.ensures ∙ c.if-is_blank.true)

pub returns-then-self : goal.returns-then-self
returns-then-self c = let a = c.args in
    by_held a.self a.grid a.ended (sym c.is_heading.ensures ∙ c.if-is_heading.false)
    (sym c.is_blank.ensures ∙ c.if-is_blank.false) c.refuse.result c.if-self.true c.refuse.ensures

pub returns : goal.returns
returns c = let a = c.args in
    by_row a.self a.grid a.ended (sym c.is_heading.ensures ∙ c.if-is_heading.false)
    (sym c.is_blank.ensures ∙ c.if-is_blank.false) c.with.result c.if-self.false c.with.ensures.blank_value c.with.ensures.by_index
