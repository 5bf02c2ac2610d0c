use mathlib.Core.Path.{◌≡◌, sym, ◌∙◌, ap, ap₂}
use Rattle.book.specs.declared.Verdict.{Verdict}
use Rattle.book.specs.Book.{header_at, calls_of}
use Rattle.pair.specs.Screening.{IsAccepted, same_month}
use Rattle.pair.proofs.Screening.{passed_both}
use Rattle.join.proofs.Books.{long}
use Rattle.tabs.specs.Tabs.{first_unfit}
use Rattle.tabs.proofs.WaysOut.{screen_books, screen_ten, screen_seven, screen_none}
use Rattle.tabs.proofs.screen_tabs.Goals as goal

pub returns-then-v-ne0 : goal.returns-then-v-ne0
returns-then-v-ne0 c = screen_books _ _ _ c.both_sound-v.result c.both_sound-v.ensures c.if-v-ne0.true

pub first_unfit-member-requires : goal.first_unfit-member-requires
first_unfit-member-requires c =
    let both_pass : let s = c.args in IsAccepted s.first.now × IsAccepted s.second.now =
    passed_both _ _ (ap (λ (v : Verdict). v.number) (sym c.both_sound-v.ensures) ∙ c.if-v-ne0.false) in
    both_pass.0

pub returns-then-member-ne0 : goal.returns-then-member-ne0
returns-then-member-ne0 c =
    let both_pass : let s = c.args in IsAccepted s.first.now × IsAccepted s.second.now =
    passed_both _ _ (ap (λ (v : Verdict). v.number) (sym c.both_sound-v.ensures) ∙ c.if-v-ne0.false) in
    let p = both_pass in
    c.refused.ensures ∙ screen_ten _ _ _ p.0 p.1 c.first_unfit-member.result c.first_unfit-member.ensures c.if-member-ne0.true

pub header_at-requires : goal.header_at-requires
header_at-requires c =
    let both_pass : let s = c.args in IsAccepted s.first.now × IsAccepted s.second.now =
    passed_both _ _ (ap (λ (v : Verdict). v.number) (sym c.both_sound-v.ensures) ∙ c.if-v-ne0.false) in
    long _ both_pass.0

pub header_at-requires-2 : goal.header_at-requires-2
header_at-requires-2 c =
    let both_pass : let s = c.args in IsAccepted s.first.now × IsAccepted s.second.now =
    passed_both _ _ (ap (λ (v : Verdict). v.number) (sym c.both_sound-v.ensures) ∙ c.if-v-ne0.false) in
    long _ both_pass.1

pub returns-then-not-same_month : goal.returns-then-not-same_month
returns-then-not-same_month c =
    let both_pass : let s = c.args in IsAccepted s.first.now × IsAccepted s.second.now =
    passed_both _ _ (ap (λ (v : Verdict). v.number) (sym c.both_sound-v.ensures) ∙ c.if-v-ne0.false) in
    let fits : let s = c.args in first_unfit s.given.now (calls_of s.first.now) ≡ 0 =
    sym c.first_unfit-member.ensures ∙ c.if-member-ne0.false in
    let months : let s = c.args in same_month (header_at s.first.now) (header_at s.second.now) ≡ c.same_month.result =
    sym (c.same_month.ensures ∙ ap₂ same_month c.header_at.ensures c.header_at-2.ensures) in
    let p = both_pass in
    c.refused-then-not-same_month.ensures ∙ screen_seven _ _ _ p.0 p.1 fits (months ∙ c.if-not-same_month.true)

pub returns : goal.returns
returns c =
    let both_pass : let s = c.args in IsAccepted s.first.now × IsAccepted s.second.now =
    passed_both _ _ (ap (λ (v : Verdict). v.number) (sym c.both_sound-v.ensures) ∙ c.if-v-ne0.false) in
    let fits : let s = c.args in first_unfit s.given.now (calls_of s.first.now) ≡ 0 =
    sym c.first_unfit-member.ensures ∙ c.if-member-ne0.false in
    let months : let s = c.args in same_month (header_at s.first.now) (header_at s.second.now) ≡ c.same_month.result =
    sym (c.same_month.ensures ∙ ap₂ same_month c.header_at.ensures c.header_at-2.ensures) in
    let p = both_pass in
    c.refused-2.ensures ∙ screen_none _ _ _ p.0 p.1 fits (months ∙ c.if-not-same_month.false)
