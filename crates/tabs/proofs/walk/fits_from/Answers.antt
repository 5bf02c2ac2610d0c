use mathlib.Core.Path.{◌≡◌, sym, ◌∙◌, ap}
use Prim.Native.Nat.{◌*◌, ◌-◌, ◌/◌, ◌<◌, ◌≤◌}
use native.Mathlib.Omega.{arith}
use lib.ListN.{length}
use borrow.Author.Tests.{eqb-true}
use Rattle.join.specs.Steps.{left_from}
use Rattle.join.proofs.Books.{long}
use Rattle.tabs.specs.Tabs.{tab_size, tabs_on, tab_at, own_of}
use Rattle.tabs.specs.Inner.{index_for}
use Rattle.tabs.proofs.Walking.{tab_is}
use Rattle.tabs.proofs.Stretches.{run_stretch, tally_is}
use Rattle.tabs.proofs.Making.{place_few, too_short, other_count, fits_by}
use Rattle.tabs.proofs.walk.fits_from.Goals as goal

pub returns-then-page-p : goal.returns-then-page-p
returns-then-page-p c =
    let p = c.tab_place-p.ensures in
    let h : length c.args.page.now < tab_size * c.args.member = omega (arith, c.requires.le_member, c.if-page-p.true) in
    too_short _ _ _ h

pub returns-then-not-has_run : goal.returns-then-not-has_run
returns-then-not-has_run c =
    let reads : c.tab_at-given.result ≡ tabs_on c.args.page.now c.args.member =
    c.tab_at-given.ensures ∙ ap (tab_at c.args.page.now) c.tab_place-p.ensures in
    other_count c.requires.up_to _ c.tab_at-given.result reads (sym c.has_run.ensures ∙ c.if-not-has_run.true)

pub tally_run-t-requires : goal.tally_run-t-requires
tally_run-t-requires c =
    let run : c.tab_at-given.result.count ≡ length (own_of c.args.member (left_from c.args.b.now c.args.at)) =
    eqb-true _ _ (sym c.has_run.ensures ∙ c.if-not-has_run.false) in
    run_stretch c.requires.up_to.coming run

pub overflow_cast-first : goal.overflow_cast-first
overflow_cast-first c = omega (arith, place_few c.requires.up_to)

pub count_at-all-requires : goal.count_at-all-requires
count_at-all-requires c = long _ c.requires.up_to.coming.read.accepted

pub returns : goal.returns
returns c =
    let there : tab_size * c.args.member ≤ length c.args.page.now =
    let p = c.tab_place-p.ensures in
    omega (arith, c.requires.le_member, c.if-page-p.false) in
    let reads : c.tab_at-given.result ≡ tabs_on c.args.page.now c.args.member =
    c.tab_at-given.ensures ∙ ap (tab_at c.args.page.now) c.tab_place-p.ensures in
    let run : c.tab_at-given.result.count ≡ length (own_of c.args.member (left_from c.args.b.now c.args.at)) =
    eqb-true _ _ (sym c.has_run.ensures ∙ c.if-not-has_run.false) in
    let n = c.tab_at-given.result.count in
    let u = c.tally_run-t.result in
    let a = c.tally_run-t.ensures.all in
    let own = tab_is c.requires.up_to u (tally_is c.requires.up_to.coming run c.tally_run-t.ensures) n c.index_for-index.result (omega arith)
    (c.index_for-index.ensures ∙ ap (index_for n ((c.args.at - 16) / 32)) c.count_at-all.ensures.0) in
    c.same_tab.ensures ∙ fits_by _ _ _ there reads own
