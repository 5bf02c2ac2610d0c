use mathlib.Core.Path.{◌≡◌, sym, ◌∙◌, ap}
use Rattle.units.specs.Month.{quarters_of}
use Rattle.book.specs.declared.Header.{Header}
use Rattle.book.specs.declared.Verdict.{Verdict}
use Rattle.score.specs.Series.{series_fault}
use Rattle.score.proofs.Turns.{fault_in, series_sound}
use Rattle.reckon.proofs.Given.{book_given}
use Rattle.reckon.proofs.Answers.{sound_refused, sound_records}
use Rattle.reckon.proofs.sound_reckoned.Goals as goal

pub header_at-h-requires : goal.header_at-h-requires
header_at-h-requires c = (book_given _ c.requires.b_value).long

pub returns-then-number-ne0 : goal.returns-then-number-ne0
returns-then-number-ne0 c =
    let fault_is : c.series_fault-fault.result ≡ fault_in c.args.b.now c.args.series.now = c.series_fault-fault.ensures
    ∙ ap (series_fault c.args.series.now)
    (c.quarters_of.ensures ∙ ap (λ (h : Header). quarters_of h.year h.month) c.header_at-h.ensures) in
    sym (sound_refused _ _ _ c.series_fault-fault.result fault_is c.if-number-ne0.true)

pub records_reckoned-requires : goal.records_reckoned-requires
records_reckoned-requires c =
    let fault_is : c.series_fault-fault.result ≡ fault_in c.args.b.now c.args.series.now = c.series_fault-fault.ensures
    ∙ ap (series_fault c.args.series.now)
    (c.quarters_of.ensures ∙ ap (λ (h : Header). quarters_of h.year h.month) c.header_at-h.ensures) in
    let no_fault : (fault_in c.args.b.now c.args.series.now).number ≡ 0 = sym (ap (λ (v : Verdict). v.number) fault_is) ∙ c.if-number-ne0.false in
    record {
      member_value = c.requires.member_value;
      b_value = c.requires.b_value;
      series_len = series_sound _ _ no_fault;
    }

pub returns : goal.returns
returns c =
    let fault_is : c.series_fault-fault.result ≡ fault_in c.args.b.now c.args.series.now = c.series_fault-fault.ensures
    ∙ ap (series_fault c.args.series.now)
    (c.quarters_of.ensures ∙ ap (λ (h : Header). quarters_of h.year h.month) c.header_at-h.ensures) in
    let no_fault : (fault_in c.args.b.now c.args.series.now).number ≡ 0 = sym (ap (λ (v : Verdict). v.number) fault_is) ∙ c.if-number-ne0.false in
    let a = c.args in
    c.records_reckoned.ensures ∙ sym (sound_records a.member a.b.now a.series.now no_fault)
