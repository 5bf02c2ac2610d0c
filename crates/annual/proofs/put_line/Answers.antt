use mathlib.Core.Path.{◌≡◌, sym, ◌∙◌}
use borrow.Author.Rules.{rules}
use lib.ListN.{length}
use native.Mathlib.Omega.{arith}
use Rattle.annual.proofs.Rows.{most_line_lem, no_line, one_line, present}
use Rattle.annual.proofs.put_line.Goals as goal

pub returns-then-not-is_present : goal.returns-then-not-is_present
returns-then-not-is_present c =
    let m = c.args.m.now in
    let long : length m.months ≡ 12 = search rules in
    no_line _ _ (sym (c.is_present.ensures ∙ present m.months long) ∙ c.if-not-is_present.true)

pub fill-requires : goal.fill-requires
fill-requires c = omega (arith, most_line_lem)

pub returns : goal.returns
returns c =
    let e = c.member_values-values.ensures in
    let m = c.args.m.now in
    let long : length m.months ≡ 12 = search rules in
    let is = sym (c.is_present.ensures ∙ present m.months long) ∙ c.if-not-is_present.false in
    one_line _ _ is (rw (most_line_lem, e) at c.fill.ensures)
