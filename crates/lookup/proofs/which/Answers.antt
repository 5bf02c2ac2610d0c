use mathlib.Core.Path.{◌≡◌, sym, ◌∙◌, ap}
use Rattle.book.specs.declared.Verdict.{Verdict}
use Rattle.pair.specs.Screening.{screen}
use Rattle.pair.proofs.Screening.{passed_screen}
use Rattle.lookup.proofs.Places.{has_index, which_refused, which_chosen}
use Rattle.lookup.proofs.which.Goals as goal

pub returns-then-v-ne0 : goal.returns-then-v-ne0
returns-then-v-ne0 c = which_refused _ _ _ _ c.screen-v.result c.screen-v.ensures c.if-v-ne0.true

pub index_of-i-requires : goal.index_of-i-requires
index_of-i-requires c =
    let none : (screen c.args.first.now c.args.second.now).number ≡ 0 =
    ap (λ (v : Verdict). v.number) (sym c.screen-v.ensures) ∙ c.if-v-ne0.false in
    (passed_screen _ _ none).first

pub index_of-j-requires : goal.index_of-j-requires
index_of-j-requires c =
    let none : (screen c.args.first.now c.args.second.now).number ≡ 0 =
    ap (λ (v : Verdict). v.number) (sym c.screen-v.ensures) ∙ c.if-v-ne0.false in
    (passed_screen _ _ none).second

pub choose-requires : goal.choose-requires
choose-requires c =
    let none : (screen c.args.first.now c.args.second.now).number ≡ 0 =
    ap (λ (v : Verdict). v.number) (sym c.screen-v.ensures) ∙ c.if-v-ne0.false in
    let s = passed_screen _ _ none in
    record {
      accepted = s.first;
      accepted_2 = s.second;
      has_index = rw c.index_of-i.ensures (has_index _ _);
      has_index_2 = rw c.index_of-j.ensures (has_index _ _);
    }

pub returns : goal.returns
returns c =
    let none : (screen c.args.first.now c.args.second.now).number ≡ 0 =
    ap (λ (v : Verdict). v.number) (sym c.screen-v.ensures) ∙ c.if-v-ne0.false in
    c.choose.ensures
    ∙ rw (c.index_of-i.ensures, c.index_of-j.ensures, c.key_of-key.ensures)
    (which_chosen _ _ _ _ none)
