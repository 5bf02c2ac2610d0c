use mathlib.Core.Path.{◌≡◌, sym, ◌∙◌, ap, ap₂}
use Rattle.book.specs.declared.Verdict.{Verdict}
use Rattle.book.specs.Book.{header_at}
use Rattle.book.proofs.Exact.{accepted_tests}
use Rattle.pair.specs.Screening.{IsAccepted, same_month}
use Rattle.pair.proofs.Screening.{passed_both, screen_both, screen_month, screen_passes}
use Rattle.pair.proofs.screen.Goals as goal

pub returns-then-v-ne0 : goal.returns-then-v-ne0
returns-then-v-ne0 c = screen_both _ _ c.both_sound-v.result c.both_sound-v.ensures c.if-v-ne0.true

pub header_at-requires : goal.header_at-requires
header_at-requires c =
    let both_pass : IsAccepted c.args.first.now × IsAccepted c.args.second.now =
    passed_both _ _ (ap (λ (v : Verdict). v.number) (sym c.both_sound-v.ensures) ∙ c.if-v-ne0.false) in
    (accepted_tests _ both_pass.0).long

pub header_at-requires-2 : goal.header_at-requires-2
header_at-requires-2 c =
    let both_pass : IsAccepted c.args.first.now × IsAccepted c.args.second.now =
    passed_both _ _ (ap (λ (v : Verdict). v.number) (sym c.both_sound-v.ensures) ∙ c.if-v-ne0.false) in
    (accepted_tests _ both_pass.1).long

pub returns-then-not-same_month : goal.returns-then-not-same_month
returns-then-not-same_month c =
    let both_pass : IsAccepted c.args.first.now × IsAccepted c.args.second.now =
    passed_both _ _ (ap (λ (v : Verdict). v.number) (sym c.both_sound-v.ensures) ∙ c.if-v-ne0.false) in
    let months : same_month (header_at c.args.first.now) (header_at c.args.second.now) ≡ c.same_month.result =
    sym (c.same_month.ensures ∙ ap₂ same_month c.header_at.ensures c.header_at-2.ensures) in
    let p = both_pass in
    c.refused.ensures ∙ screen_month _ _ p.0 p.1 (months ∙ c.if-not-same_month.true)

pub returns : goal.returns
returns c =
    let both_pass : IsAccepted c.args.first.now × IsAccepted c.args.second.now =
    passed_both _ _ (ap (λ (v : Verdict). v.number) (sym c.both_sound-v.ensures) ∙ c.if-v-ne0.false) in
    let months : same_month (header_at c.args.first.now) (header_at c.args.second.now) ≡ c.same_month.result =
    sym (c.same_month.ensures ∙ ap₂ same_month c.header_at.ensures c.header_at-2.ensures) in
    let p = both_pass in
    c.refused-2.ensures ∙ screen_passes _ _ p.0 p.1 (months ∙ c.if-not-same_month.false)
