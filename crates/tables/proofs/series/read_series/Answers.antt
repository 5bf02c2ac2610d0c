use mathlib.Core.Path.{refl, ◌∙◌}
use native.Mathlib.Omega.{arith}
use borrow.Author.Rules.{rules}
use Rattle.tables.proofs.Filling.{series_line, series_end, series_start}
use Rattle.tables.proofs.series.read_series.Goals as goal

pub loop-i-init : goal.loop-i-init
loop-i-init c = let a = c.args in
    (omega arith, search rules, refl, omega arith, series_start a.out.now c.start-grid.result _ a.text.now c.start-grid.ensures)

pub loop-i-preserved-then-text-i-eq10 : goal.loop-i-preserved-then-text-i-eq10
loop-i-preserved-then-text-i-eq10 c = let l = c.loop-i in
    let a = c.args in
    let p = c.put_line-place in (
      omega arith,
      l.invariant.1,
      search rules,
      omega (arith, p.ensures.few),
      series_line l.out l.place l.grid l.ended (omega arith) a.text.now l.i _ p.result c.next-grid.result (omega arith)
          c.if-text-i-eq10.true c.next-grid.ensures p.ensures ∙ l.invariant.4,
    )

pub returns : goal.returns
returns c = let l = c.loop-i in
    let a = c.args in
    let p = c.put_line in
    series_end l.out l.place l.grid l.ended (omega arith) a.text.now l.i _ p.result (omega arith) p.ensures ∙ l.invariant.4
