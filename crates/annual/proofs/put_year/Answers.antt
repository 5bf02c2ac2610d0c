use mathlib.Core.Path.{◌∙◌, ap}
use native.Mathlib.Omega.{arith}
use Rattle.report.specs.declared.totals.Totals.{Totals}
use Rattle.report.specs.Totals.{with_user}
use Rattle.render.proofs.Placed.{and_then, same_put}
use Rattle.annual.specs.Texts.{foot_text, year_of_text}
use Rattle.annual.proofs.Rows.{most_head_lem}
use Rattle.annual.proofs.put_year.Goals as goal

pub fill-a-requires : goal.fill-a-requires
fill-a-requires c = omega (arith, most_head_lem)

pub put_members-b-requires : goal.put_members-b-requires
put_members-b-requires c = let p = c.fill-a.ensures in omega (arith, most_head_lem, p.fits, p.behind)

pub put_foot-requires : goal.put_foot-requires
put_foot-requires c =
    let p = c.fill-a.ensures in
    let q = c.put_members-b.ensures in
    omega (arith, most_head_lem, p.fits, p.behind, q.fits, q.behind)

pub returns : goal.returns
unfolding year_of_text
returns c =
    let y = c.args.y in
    let p = rw most_head_lem at c.fill-a.ensures in
    let q = c.put_members-b.ensures in
    let t = c.year_totals-t.ensures in
    let s = c.with_user-all.ensures ∙ ap (λ (t : Totals). with_user t y.users.0) t in
    and_then (and_then p q) (same_put (ap (foot_text y.users.0) s) c.put_foot.ensures)
