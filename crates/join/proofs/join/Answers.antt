use mathlib.Core.Path.{◌≡◌, sym, ◌∙◌, ap}
use Rattle.book.specs.declared.Verdict.{Verdict}
use Rattle.pair.specs.Screening.{screen}
use Rattle.pair.proofs.Screening.{passed_screen, zero_screened}
use Rattle.join.proofs.WaysOut.{refuse_screened, goes_on_lem}
use Rattle.join.proofs.join.Goals as goal

pub returns-then-v-ne0 : goal.returns-then-v-ne0
returns-then-v-ne0 c =
    c.join_refused.ensures _ ∙ refuse_screened _ _ _ c.screen-v.result c.screen-v.ensures c.if-v-ne0.true

pub join_sound-requires : goal.join_sound-requires
join_sound-requires c =
    let none : (screen c.args.first.now c.args.second.now).number ≡ 0 =
    ap (λ (v : Verdict). v.number) (sym c.screen-v.ensures) ∙ c.if-v-ne0.false in
    let s = passed_screen _ _ none in record {
      accepted = s.first;
      accepted_2 = s.second;
    }

pub returns : goal.returns
returns c =
    let none : (screen c.args.first.now c.args.second.now).number ≡ 0 =
    ap (λ (v : Verdict). v.number) (sym c.screen-v.ensures) ∙ c.if-v-ne0.false in
    c.join_sound.ensures ∙ goes_on_lem _ _ _ (zero_screened _ _ none)
