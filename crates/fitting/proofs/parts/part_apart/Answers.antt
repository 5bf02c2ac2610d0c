use mathlib.Core.Path.{sym, ◌∙◌}
use Rattle.month.specs.Inner.{got_in}
use Rattle.fitting.proofs.Cases.{share_apart, uncollected_apart, given_apart, amount_apart, part_fits}
use Rattle.fitting.proofs.parts.part_apart.Goals as goal

pub returns-then-not-is_same : goal.returns-then-not-is_same
returns-then-not-is_same c =
    let a = c.args in
    share_apart a.line a.r (got_in a.l) (sym c.is_same.ensures ∙ c.if-not-is_same.true)

pub returns-then-uncollected-beyond : goal.returns-then-uncollected-beyond
returns-then-uncollected-beyond c =
    let a = c.args in
    let share = sym c.is_same.ensures ∙ c.if-not-is_same.false in
    uncollected_apart a.line a.r (got_in a.l) share c.if-uncollected-beyond.true

pub returns-then-given-up : goal.returns-then-given-up
returns-then-given-up c =
    let a = c.args in
    let share = sym c.is_same.ensures ∙ c.if-not-is_same.false in
    given_apart a.line a.r (got_in a.l) share c.if-uncollected-beyond.false c.if-given-up.true

pub returns-then-not-is_same-2 : goal.returns-then-not-is_same-2
returns-then-not-is_same-2 c =
    let a = c.args in
    let share = sym c.is_same.ensures ∙ c.if-not-is_same.false in
    amount_apart a.line a.r (got_in a.l) share c.if-uncollected-beyond.false c.if-given-up.false (sym c.is_same-2.ensures ∙ c.if-not-is_same-2.true)

pub returns : goal.returns
returns c =
    let a = c.args in
    let share = sym c.is_same.ensures ∙ c.if-not-is_same.false in
    part_fits a.line a.r (got_in a.l) share c.if-uncollected-beyond.false c.if-given-up.false (sym c.is_same-2.ensures ∙ c.if-not-is_same-2.false)
