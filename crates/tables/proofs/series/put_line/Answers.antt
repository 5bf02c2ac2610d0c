use mathlib.Core.Path.{sym, ◌∙◌}
use Rattle.tables.proofs.Filling.{by_heading, by_blank, by_line}
use Rattle.tables.proofs.series.put_line.Goals as goal

pub returns-then-is_heading : goal.returns-then-is_heading
returns-then-is_heading c = let a = c.args in by_heading a.grid a.out.now a.place (sym c.is_heading.ensures ∙ c.if-is_heading.true)

pub returns-then-is_blank : goal.returns-then-is_blank
returns-then-is_blank c = let a = c.args in
    by_blank a.grid a.out.now a.place (sym c.is_heading.ensures ∙ c.if-is_heading.false)
    (sym c.is_blank.ensures ∙ c.if-is_blank.true)

pub returns : goal.returns
returns c = let a = c.args in
    let x = c.output_in-x in
    by_line a.grid a.out.now a.place _ _ x.result c.put_blanks-n.result c.put_output.result
    (sym c.is_heading.ensures ∙ c.if-is_heading.false)
    (sym c.is_blank.ensures ∙ c.if-is_blank.false)
    c.put_blanks-n.ensures x.ensures c.put_output.ensures
