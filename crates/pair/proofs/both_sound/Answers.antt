use mathlib.Core.Path.{sym, ◌∙◌, ap}
use native.Mathlib.Omega.{arith}
use Rattle.book.specs.declared.Verdict.{Verdict}
use Rattle.pair.specs.Screening.{IsAccepted}
use Rattle.book.proofs.Judged.{check_most, zero_accepted}
use Rattle.pair.proofs.Screening.{both_first, both_second, both_pass}
use Rattle.pair.proofs.both_sound.Goals as goal

pub returns-then-v-ne0 : goal.returns-then-v-ne0
returns-then-v-ne0 c = both_first _ _ c.check-v.result c.check-v.ensures c.if-v-ne0.true

pub overflow_add-w : goal.overflow_add-w
overflow_add-w c =
    omega (arith, check_most c.args.second.now, ap (λ (v : Verdict). v.number) c.check-w.ensures)

pub returns-then-w-ne0 : goal.returns-then-w-ne0
returns-then-w-ne0 c =
    let first_passes : IsAccepted c.args.first.now =
    zero_accepted _ (ap (λ (v : Verdict). v.number) (sym c.check-v.ensures) ∙ c.if-v-ne0.false) in
    c.refused.ensures ∙ both_second _ _ first_passes c.check-w.result c.check-w.ensures c.if-w-ne0.true

pub returns : goal.returns
returns c =
    let first_passes : IsAccepted c.args.first.now =
    zero_accepted _ (ap (λ (v : Verdict). v.number) (sym c.check-v.ensures) ∙ c.if-v-ne0.false) in
    let second-passes : IsAccepted c.args.second.now =
    zero_accepted _ (ap (λ (v : Verdict). v.number) (sym c.check-w.ensures) ∙ c.if-w-ne0.false) in
    c.refused-2.ensures ∙ both_pass _ _ first_passes second-passes
