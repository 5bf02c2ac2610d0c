use mathlib.Core.Path.{◌≡◌, sym, ◌∙◌, ap}
use Rattle.book.specs.declared.Verdict.{Verdict}
use Rattle.pair.specs.Screening.{screen}
use Rattle.pair.proofs.Screening.{passed_screen}
use Rattle.drawer.proofs.Listing.{next_refused_lem, next_of}
use Rattle.drawer.proofs.stale.next_stale.Goals as goal

pub returns-then-number-ne0 : goal.returns-then-number-ne0
returns-then-number-ne0 c = next_refused_lem _ _ _ c.screen-v.result c.screen-v.ensures c.if-number-ne0.true

pub stale_from-requires : goal.stale_from-requires
stale_from-requires c =
    let none : let s = c.args in (screen s.book.now s.joined.now).number ≡ 0 =
    ap (λ (v : Verdict). v.number) (sym c.screen-v.ensures) ∙ c.if-number-ne0.false in
    let s = passed_screen _ _ none in record { accepted = s.first; accepted_2 = s.second }

pub returns : goal.returns
returns c =
    let none : let s = c.args in (screen s.book.now s.joined.now).number ≡ 0 =
    ap (λ (v : Verdict). v.number) (sym c.screen-v.ensures) ∙ c.if-number-ne0.false in
    c.stale_from.ensures ∙ next_of _ _ _ none
