use mathlib.Core.Path.{◌≡◌, sym, ◌∙◌, ap}
use Prim.Native.Nat.{◌≤◌}
use native.Mathlib.Omega.{arith}
use lib.ListN.{length}
use Rattle.book.specs.declared.Verdict.{Verdict}
use Rattle.join.specs.Joining.{keys_of_both}
use Rattle.join.proofs.Accepted.{one_header}
use Rattle.tabs.specs.Tabs.{page_size}
use Rattle.tabs.specs.Outcome.{screen_tabs}
use Rattle.tabs.proofs.WaysOut.{passed_screen, zero_screened, rooms_short, never_nought, refuse_screen, refuse_rooms, goes_on_lem, refused_as}
use Rattle.tabs.proofs.join_tabs.Goals as goal

pub returns-then-v-ne0 : goal.returns-then-v-ne0
returns-then-v-ne0 c =
    refused_as c.join_refused.result _ c.join_refused.ensures _ _ ∙ refuse_screen _ _ _ _ _ c.screen_tabs-v.result c.screen_tabs-v.ensures c.if-v-ne0.true

pub overflow-requires : goal.overflow-requires
overflow-requires c =
    let none : let s = c.args in (screen_tabs s.first.now s.given.now s.second.now).number ≡ 0 =
    ap (λ (v : Verdict). v.number) (sym c.screen_tabs-v.ensures) ∙ c.if-v-ne0.false in
    let s = passed_screen _ _ _ none in record { accepted = s.first; accepted_2 = s.second }

pub returns-then-page-lt-PAGE_SIZE : goal.returns-then-page-lt-PAGE_SIZE
returns-then-page-lt-PAGE_SIZE c =
    let none : let s = c.args in (screen_tabs s.first.now s.given.now s.second.now).number ≡ 0 =
    ap (λ (v : Verdict). v.number) (sym c.screen_tabs-v.ensures) ∙ c.if-v-ne0.false in
    let s = c.args in
    let n : c.overflow.result.number ≡ 0 → ⊥ = λ z. never_nought (keys_of_both s.first.now s.second.now) (ap (λ (v : Verdict). v.number) (sym c.overflow.ensures) ∙ z) in
    refused_as c.join_refused-then-page-lt-PAGE_SIZE.result _ c.join_refused-then-page-lt-PAGE_SIZE.ensures _ _
    ∙ refuse_rooms _ _ _ _ _ (zero_screened _ _ _ none) c.overflow.result
    (c.overflow.ensures ∙ rooms_short (keys_of_both s.first.now s.second.now) _ _ c.if-page-lt-PAGE_SIZE.true) n

pub join_fitting-requires : goal.join_fitting-requires
join_fitting-requires c =
    let none : let s = c.args in (screen_tabs s.first.now s.given.now s.second.now).number ≡ 0 =
    ap (λ (v : Verdict). v.number) (sym c.screen_tabs-v.ensures) ∙ c.if-v-ne0.false in
    let s = passed_screen _ _ _ none in
    record { accepted = s.first; accepted_2 = s.second; first_value = one_header _ _ s.month; first_value_2 = s.fits; page_size_in_bounds = omega (arith, c.if-page-lt-PAGE_SIZE.false) }

pub returns : goal.returns
returns c =
    let none : let s = c.args in (screen_tabs s.first.now s.given.now s.second.now).number ≡ 0 =
    ap (λ (v : Verdict). v.number) (sym c.screen_tabs-v.ensures) ∙ c.if-v-ne0.false in
    let s = c.args in
    let h : page_size ≤ length s.page.now = omega (arith, c.if-page-lt-PAGE_SIZE.false) in
    c.join_fitting.ensures ∙ goes_on_lem _ _ _ _ _ (zero_screened _ _ _ none) h
