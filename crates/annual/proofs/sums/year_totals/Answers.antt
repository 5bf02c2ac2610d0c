use mathlib.Core.Path.{◌≡◌, ◌∙◌, ap}
use native.Mathlib.Omega.{arith}
use borrow.Author.Rules.{rules}
use lib.ListN.{length}
use Rattle.annual.specs.Sums.{with_member, year_totals}
use Rattle.annual.proofs.Rows.{totals_none, totals_more}
use Rattle.annual.proofs.sums.year_totals.Goals as goal

pub loop-m-init : goal.loop-m-init
loop-m-init c = c.no_lines-t.ensures ∙ totals_none c.args.members.now

pub loop-m-preserved : goal.loop-m-preserved
unfolding with_member
loop-m-preserved c =
    let l = c.loop-m in
    let a = c.args in
    totals_more a.members.now l.m-index _ (omega arith) l.t c.with_line-t.result l.invariant c.with_line-t.ensures

pub returns : goal.returns
returns c =
    let l = c.loop-m in
    let a = c.args in
    let long : length a.members.now ≡ 64 = search rules in
    l.invariant ∙ ap (year_totals a.members.now) (omega arith)
