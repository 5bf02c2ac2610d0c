use mathlib.Core.Path.{sym, ◌∙◌, ap}
use Rattle.book.specs.declared.Verdict.{Verdict}
use Rattle.book.proofs.Judged.{zero_accepted}
use Rattle.pair.specs.Screening.{IsAccepted}
use Rattle.tabs.proofs.WaysOut.{fitting_book, fitting_ten, fitting_none}
use Rattle.tabs.proofs.fitting.Goals as goal

pub returns-then-v-ne0 : goal.returns-then-v-ne0
returns-then-v-ne0 c = fitting_book _ _ c.check-v.result c.check-v.ensures c.if-v-ne0.true

pub first_unfit-lowest-requires : goal.first_unfit-lowest-requires
first_unfit-lowest-requires c =
    let sound : IsAccepted c.args.book.now =
    zero_accepted _ (ap (λ (v : Verdict). v.number) (sym c.check-v.ensures) ∙ c.if-v-ne0.false) in
    sound

pub returns-then-lowest-ne0 : goal.returns-then-lowest-ne0
returns-then-lowest-ne0 c =
    let sound : IsAccepted c.args.book.now =
    zero_accepted _ (ap (λ (v : Verdict). v.number) (sym c.check-v.ensures) ∙ c.if-v-ne0.false) in
    c.refused.ensures ∙ fitting_ten _ _ sound c.first_unfit-lowest.result c.first_unfit-lowest.ensures c.if-lowest-ne0.true

pub returns : goal.returns
returns c =
    let sound : IsAccepted c.args.book.now =
    zero_accepted _ (ap (λ (v : Verdict). v.number) (sym c.check-v.ensures) ∙ c.if-v-ne0.false) in
    c.refused-2.ensures ∙ fitting_none _ _ sound (sym c.first_unfit-lowest.ensures ∙ c.if-lowest-ne0.false)
