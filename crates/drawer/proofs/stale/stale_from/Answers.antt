use mathlib.Core.Path.{sym, ◌∙◌, ap}
use Prim.Native.Nat.{◌<◌}
use native.Mathlib.Omega.{arith}
use Rattle.book.specs.Book.{count_at}
use Rattle.join.proofs.Books.{long}
use Rattle.drawer.specs.declared.stale.NextStale.TheVariants.{Next}
use Rattle.drawer.specs.Stale.{is_stale_at, stale_at, stale_of, first_stale}
use Rattle.drawer.proofs.Listing.{turn_some, turn_none}
use Rattle.drawer.proofs.Telling.{told_hit, told_miss, told_end}
use Rattle.drawer.proofs.stale.stale_from.Goals as goal

pub count_at-at-end-requires : goal.count_at-at-end-requires
count_at-at-end-requires c = long _ c.requires.accepted

pub returns-in-Some : goal.returns-in-Some
unfolding stale_of first_stale
returns-in-Some c =
    let inside : c.loop-at.at < count_at c.args.book.now =
    omega (arith, c.count_at-at-end.ensures.0) in
    let a = c.args in
    let l = c.loop-at in
    let x = a.book.now in
    let y = a.joined.now in
    let t = turn_some x y l.at c.in-Some.told (sym c.stale_turn.ensures ∙ c.in-Some.is) in
    let hit = told_hit (is_stale_at x y) (stale_at x y) _ l.at inside t.0 in
    ap Next t.1 ∙ ap first_stale (sym hit ∙ l.invariant)

pub loop-at-preserved : goal.loop-at-preserved
unfolding stale_of
loop-at-preserved c =
    let inside : c.loop-at.at < count_at c.args.book.now =
    omega (arith, c.count_at-at-end.ensures.0) in
    let a = c.args in
    let l = c.loop-at in
    let x = a.book.now in
    let y = a.joined.now in
    told_miss (is_stale_at x y) (stale_at x y) _ l.at inside (turn_none x y l.at (sym c.stale_turn.ensures ∙ c.in_default.is))
    ∙ l.invariant

pub returns : goal.returns
unfolding stale_of first_stale
returns c =
    let a = c.args in
    let l = c.loop-at in
    let x = a.book.now in
    let y = a.joined.now in
    let end = told_end (is_stale_at x y) (stale_at x y) (count_at x) l.at (omega (arith, c.count_at-at-end.ensures.0)) in
    ap first_stale (sym end ∙ l.invariant)
