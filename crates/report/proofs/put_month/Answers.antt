use mathlib.Core.Path.{◌≡◌, ◌∙◌, ap}
use lib.ListN.{length}
use borrow.Author.Rules.{rules}
use native.Mathlib.Omega.{arith}
use Rattle.report.specs.declared.totals.Totals.{Totals}
use Rattle.report.specs.Totals.{with_user}
use Rattle.report.specs.Texts.{month_of}
use Rattle.render.proofs.Placed.{and_then, same_put}
use Rattle.report.proofs.Rows.{rows_counted, totals_counted}
use Rattle.report.proofs.put_month.Goals as goal

pub returns : goal.returns
unfolding month_of
returns c =
    let s = c.args.s in
    let long : length s.rows ≡ 64 = search rules in
    let t = c.totals_of-t.ensures ∙ totals_counted s.rows c.args.count (omega arith) in
    let e = c.with_user-all.ensures ∙ ap (λ (x : Totals). with_user x s.user.0) t in
    and_then (same_put (rows_counted s.rows c.args.count (omega arith)) c.put_rows-a.ensures) (rw e at c.put_foot.ensures)
