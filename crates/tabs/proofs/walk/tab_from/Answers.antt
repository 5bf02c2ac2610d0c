use mathlib.Core.Path.{refl, ◌∙◌, ap}
use Prim.Native.Nat.{◌+◌, ◌-◌, ◌/◌, ◌≤◌}
use native.Mathlib.Omega.{arith}
use Rattle.book.specs.Book.{most_keys}
use Rattle.join.proofs.Books.{long}
use Rattle.tabs.specs.Inner.{index_for}
use Rattle.tabs.proofs.Walking.{count_few, tab_is}
use Rattle.tabs.proofs.Making.{place_few}
use Rattle.tabs.proofs.walk.tab_from.Goals as goal

pub overflow_add-count : goal.overflow_add-count
overflow_add-count c =
    let most : c.tally_from-t.result.live + c.tally_from-t.result.contested + c.tally_from-t.result.withdrawn ≤ most_keys =
    count_few c.requires c.tally_from-t.result c.tally_from-t.ensures in
    omega (arith, most)

pub overflow_add-count-2 : goal.overflow_add-count-2
overflow_add-count-2 c =
    let most : c.tally_from-t.result.live + c.tally_from-t.result.contested + c.tally_from-t.result.withdrawn ≤ most_keys =
    count_few c.requires c.tally_from-t.result c.tally_from-t.ensures in
    omega (arith, most)

pub overflow_cast-first : goal.overflow_cast-first
overflow_cast-first c = omega (arith, place_few c.requires)

pub count_at-all-requires : goal.count_at-all-requires
count_at-all-requires c = long _ c.requires.coming.read.accepted

pub returns : goal.returns
returns c =
    tab_is c.requires c.tally_from-t.result c.tally_from-t.ensures _ c.index_for-index.result refl
    (c.index_for-index.ensures
    ∙ ap (index_for (c.tally_from-t.result.live + c.tally_from-t.result.contested + c.tally_from-t.result.withdrawn) ((c.args.at - 16) / 32)) c.count_at-all.ensures.0)
