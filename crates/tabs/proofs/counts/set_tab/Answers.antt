use mathlib.Core.Path.{◌≡◌, ◌∙◌, ap}
use Prim.Native.Nat.{ℕ, ◌+◌}
use native.Mathlib.Omega.{arith}
use Rattle.tabs.specs.declared.Tab.{Tab}
use Rattle.tabs.specs.Tabs.{tab_at, tabs_on}
use Rattle.tabs.specs.Inner.{retab, states_on}
use Rattle.tabs.proofs.Retabbing.{retab_is}
use Rattle.tabs.proofs.counts.set_tab.Goals as goal

pub overflow_add-count : goal.overflow_add-count
unfolding states_on
overflow_add-count c =
    let reads : c.tab_at-t.result ≡ tabs_on c.args.page.now c.args.member =
    c.tab_at-t.ensures ∙ ap (tab_at c.args.page.now) c.tab_place-at.ensures in
    let sums : c.tab_at-t.result.live + c.tab_at-t.result.contested + c.tab_at-t.result.withdrawn ≡ states_on c.args.page.now c.args.member =
    ap (λ (t : Tab). t.live + t.contested + t.withdrawn) reads in
    omega (arith, sums, c.requires.member_bound)

pub overflow_add-count-2 : goal.overflow_add-count-2
unfolding states_on
overflow_add-count-2 c =
    let reads : c.tab_at-t.result ≡ tabs_on c.args.page.now c.args.member =
    c.tab_at-t.ensures ∙ ap (tab_at c.args.page.now) c.tab_place-at.ensures in
    let sums : c.tab_at-t.result.live + c.tab_at-t.result.contested + c.tab_at-t.result.withdrawn ≡ states_on c.args.page.now c.args.member =
    ap (λ (t : Tab). t.live + t.contested + t.withdrawn) reads in
    omega (arith, sums, c.requires.member_bound)

pub overflow_add-result : goal.overflow_add-result
unfolding states_on
overflow_add-result c =
    let reads : c.tab_at-t.result ≡ tabs_on c.args.page.now c.args.member =
    c.tab_at-t.ensures ∙ ap (tab_at c.args.page.now) c.tab_place-at.ensures in
    let sums : c.tab_at-t.result.live + c.tab_at-t.result.contested + c.tab_at-t.result.withdrawn ≡ states_on c.args.page.now c.args.member =
    ap (λ (t : Tab). t.live + t.contested + t.withdrawn) reads in
    omega (arith, sums, c.requires.member_bound)

pub returns : goal.returns
unfolding states_on
returns c =
    let reads : c.tab_at-t.result ≡ tabs_on c.args.page.now c.args.member =
    c.tab_at-t.ensures ∙ ap (tab_at c.args.page.now) c.tab_place-at.ensures in
    let sums : c.tab_at-t.result.live + c.tab_at-t.result.contested + c.tab_at-t.result.withdrawn ≡ states_on c.args.page.now c.args.member =
    ap (λ (t : Tab). t.live + t.contested + t.withdrawn) reads in
    let tab = retab_is c.args.below c.args.all c.index_for-index.result c.tab_at-t.result c.index_for-index.ensures ∙ ap (retab c.args.below c.args.all) reads in record
    { value = ap (λ (k : ℕ). c.args.below + k) sums; stores = rw (tab, c.tab_place-at.ensures) at c.put_tab.ensures }
