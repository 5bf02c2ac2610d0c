use mathlib.Core.Path.{◌≡◌, ap}
use native.Mathlib.Omega.{arith}
use lib.ListN.{length}
use Rattle.render.proofs.Placed.{and_then, same_put}
use Rattle.text.specs.Texts.{lines_text}
use Rattle.text.proofs.Statements.{most_total_lem, most_user_lem, seen_lines}
use borrow.Author.Rules.{rules}
use Rattle.text.proofs.sharing.put_accepted.Goals as goal

pub fill-a-requires : goal.fill-a-requires
fill-a-requires c = omega (arith, most_total_lem)

pub put_lines-b-requires-clause-most_line_in_bounds : goal.put_lines-b-requires-clause-most_line_in_bounds
put_lines-b-requires-clause-most_line_in_bounds c =
    let p = c.fill-a in
    let room = c.requires in
    omega (arith, p.ensures.fits, p.ensures.behind, most_total_lem, room)

pub fill-requires : goal.fill-requires
fill-requires c =
    let p = c.fill-a in
    let q = c.put_lines-b in
    let room = c.requires in
    omega (arith, p.ensures.fits, p.ensures.behind, q.ensures.fits, q.ensures.behind, most_total_lem, most_user_lem, room)

pub returns : goal.returns
returns c =
    let long : length c.args.s.lines ≡ 64 = search rules in
    let a = c.args in
    let n = c.seen in
    let same = ap lines_text (seen_lines a.s.lines a.count n.result long n.ensures.0) in
    let p = rw (most_total_lem, c.fen_bits-gap.ensures) at c.fill-a.ensures in
    let q = same_put same c.put_lines-b.ensures in
    let r = rw (most_user_lem, c.fen_bits-user.ensures) at c.fill.ensures in
    and_then (and_then p q) r
