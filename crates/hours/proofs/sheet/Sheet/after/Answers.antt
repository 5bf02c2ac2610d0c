use Rattle.std.proofs.Common.{sym, ◌∙◌}
use Rattle.hours.proofs.Taking.{after_heading, after_blank, after_held, after_row}
use Rattle.hours.proofs.sheet.Sheet.after.Goals as goal

pub returns-then-is_heading : goal.returns-then-is_heading
returns-then-is_heading c = let a = c.args in
    λ m hours ls held e j. after_heading a.grid a.ended a.self (sym c.is_heading.ensures ∙ c.if-is_heading.true) m hours ls held j

pub returns-then-is_blank : goal.returns-then-is_blank
returns-then-is_blank c = let a = c.args in
    λ m hours ls held e j. after_blank a.grid a.ended a.self (sym c.is_heading.ensures ∙ c.if-is_heading.false)
    (sym c.is_blank.ensures ∙ c.if-is_blank.true) m hours ls held j

pub returns-then-blank : goal.returns-then-blank
returns-then-blank c = let a = c.args in
    λ m hours ls held e j. after_held a.grid a.ended a.self (sym c.is_heading.ensures ∙ c.if-is_heading.false)
    (sym c.is_blank.ensures ∙ c.if-is_blank.false) c.spoilt.result c.spoilt.ensures m hours ls held
    (sym c.if-blank.true ∙ e) j

pub returns : goal.returns
returns c = let a = c.args in
    λ m hours ls held e j. after_row a.grid a.ended a.self (sym c.is_heading.ensures ∙ c.if-is_heading.false)
    (sym c.is_blank.ensures ∙ c.if-is_blank.false) c.with.result c.with.ensures m hours ls held
    (sym c.if-blank.false ∙ e) j
