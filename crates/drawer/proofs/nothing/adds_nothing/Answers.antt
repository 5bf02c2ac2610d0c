use mathlib.Core.Path.{◌≡◌, sym, ◌∙◌, ap}
use Rattle.book.specs.declared.Verdict.{Verdict}
use Rattle.pair.specs.Screening.{screen}
use Rattle.pair.proofs.Screening.{passed_screen}
use Rattle.drawer.proofs.Covering.{screened_out, screened_in}
use Rattle.drawer.proofs.nothing.adds_nothing.Goals as goal

pub returns-then-v-ne0 : goal.returns-then-v-ne0
returns-then-v-ne0 c = screened_out _ _ c.screen-v.result c.screen-v.ensures c.if-v-ne0.true

pub all_covered-requires : goal.all_covered-requires
all_covered-requires c =
    let none : let s = c.args in (screen s.others.now s.book.now).number ≡ 0 =
    ap (λ (v : Verdict). v.number) (sym c.screen-v.ensures) ∙ c.if-v-ne0.false in
    let s = passed_screen _ _ none in record { accepted = s.first; accepted_2 = s.second }

pub returns : goal.returns
returns c =
    let none : let s = c.args in (screen s.others.now s.book.now).number ≡ 0 =
    ap (λ (v : Verdict). v.number) (sym c.screen-v.ensures) ∙ c.if-v-ne0.false in
    c.all_covered.ensures ∙ screened_in _ _ none
