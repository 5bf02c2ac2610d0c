use mathlib.Core.Path.{sym, ◌∙◌}
use Rattle.join.proofs.Books.{long}
use Rattle.drawer.proofs.Covering.{all_none, all_more, all_end, all_start}
use Rattle.drawer.proofs.nothing.all_covered.Goals as goal

pub count_at-i-end-requires : goal.count_at-i-end-requires
count_at-i-end-requires c = long _ c.requires.accepted_2

pub loop-i-init : goal.loop-i-init
loop-i-init c = all_start _ _ _ c.count_at-i-end.ensures.0

pub returns-then-not-covered_at : goal.returns-then-not-covered_at
returns-then-not-covered_at c =
    let l = c.loop-i in
    all_none _ _ l.i _ c.loop-i-test.true (sym c.covered_at.ensures ∙ c.if-not-covered_at.true) ∙ l.invariant

pub loop-i-preserved : goal.loop-i-preserved
loop-i-preserved c =
    let l = c.loop-i in
    all_more _ _ l.i _ c.loop-i-test.true (sym c.covered_at.ensures ∙ c.if-not-covered_at.false) ∙ l.invariant

pub returns : goal.returns
returns c = all_end _ _ _ _ c.loop-i-test.false ∙ c.loop-i.invariant
