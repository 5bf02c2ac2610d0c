use native.Mathlib.Omega.{arith}
use mathlib.Core.Path.{◌≡◌, sym, ◌∙◌, ap}
use mathlib.Core.List.{[], ◌∷◌}
use lib.Dec.{leb}
use borrow.Author.Tests.{leb-true}
use Rattle.le.proofs.Tests.{each}
use Rattle.units.specs.Month.{days_of}
use Rattle.units.proofs.Laws.{days_most}
use Rattle.book.specs.declared.Header.{Header}
use Rattle.book.specs.Book.{header_at}
use Rattle.score.specs.declared.answer.Score.{Score}
use Rattle.reckon.specs.Reckoning.{reckoning}
use Rattle.reckon.proofs.Given.{book_given}
use Rattle.day_runs.proofs.Days.{line_good, book_good, told_refused, told_day, told_none}
use Rattle.day_runs.proofs.runs_told.Goals as goal

pub returns-then-r-ne0 : goal.returns-then-r-ne0
returns-then-r-ne0 c =
    let a = c.args in
    let h : (reckoning a.member a.b.now a.series.now).number ≡ 0 → ⊥ = λ z. c.if-r-ne0.true (ap (λ (r : Score). r.number) c.requires ∙ z) in
    rw (told_refused a.member a.b.now a.series.now a.day h) c.no_runs.ensures

pub header_at-h-requires : goal.header_at-h-requires
header_at-h-requires c =
    let zero : (reckoning c.args.member c.args.b.now c.args.series.now).number ≡ 0 = sym (ap (λ (r : Score). r.number) c.requires) ∙ c.if-r-ne0.false in
    let a = c.args in
    (book_given a.b.now (book_good a.member a.b.now a.series.now zero)).long

pub day_runs-requires : goal.day_runs-requires
day_runs-requires c =
    let zero : (reckoning c.args.member c.args.b.now c.args.series.now).number ≡ 0 = sym (ap (λ (r : Score). r.number) c.requires) ∙ c.if-r-ne0.false in
    let a = c.args in
    let z = zero in
    let t = each (leb 1 a.day) (leb a.day c.days_of-days.result ∷ []) c.if-day-days.true in
    let d = c.days_of-days.ensures in
    let h = c.header_at-h.result in record {
      member_value = line_good a.member a.b.now a.series.now z;
      b_value = book_good a.member a.b.now a.series.now z;
      le_day = (leb-true 1 a.day t.0, omega (arith, leb-true a.day c.days_of-days.result t.1.0, d, days_most h.year h.month));
    }

pub returns-then-day-days : goal.returns-then-day-days
returns-then-day-days c =
    let zero : (reckoning c.args.member c.args.b.now c.args.series.now).number ≡ 0 = sym (ap (λ (r : Score). r.number) c.requires) ∙ c.if-r-ne0.false in
    let days : c.days_of-days.result ≡ days_of (header_at c.args.b.now).year (header_at c.args.b.now).month = c.days_of-days.ensures ∙ ap (λ (h : Header). days_of h.year h.month)
    c.header_at-h.ensures in
    let a = c.args in
    let z = zero in
    rw (told_day a.member a.b.now a.series.now a.day z c.days_of-days.result days c.if-day-days.true) c.day_runs.ensures

pub returns : goal.returns
returns c =
    let zero : (reckoning c.args.member c.args.b.now c.args.series.now).number ≡ 0 = sym (ap (λ (r : Score). r.number) c.requires) ∙ c.if-r-ne0.false in
    let days : c.days_of-days.result ≡ days_of (header_at c.args.b.now).year (header_at c.args.b.now).month = c.days_of-days.ensures ∙ ap (λ (h : Header). days_of h.year h.month)
    c.header_at-h.ensures in
    let a = c.args in
    let z = zero in
    rw (told_none a.member a.b.now a.series.now a.day z c.days_of-days.result days c.if-day-days.false) c.no_runs-2.ensures
