use Rattle.book.specs.Book.{most_keys, count_at, record_at}
use Rattle.book.proofs.Exact.{Accepted, accepted_tests, accepted_few}
use native.Mathlib.Omega.{arith}
use mathlib.Core.Path.{◌≡◌, sym, ◌∙◌, ap}
use Prim.Native.Nat.{◌≤◌}
use Rattle.units.specs.Month.{quarters_of}
use Rattle.book.specs.declared.Header.{Header}
use Rattle.book.specs.declared.Verdict.{Verdict}
use Rattle.score.specs.Series.{series_fault}
use Rattle.score.specs.Scoring.{records_earned, month_at}
use Rattle.score.proofs.Turns.{fault_in, series_sound, sound_refused, sound_records}
use Rattle.score.proofs.Checked.{all_sound, spans_month}
use Rattle.pay.proofs.Within.{line_of}
use Rattle.score.proofs.sound_earned.Goals as goal

pub header_at-h-requires : goal.header_at-h-requires
header_at-h-requires c =
    let tested : Accepted c.args.b.now = accepted_tests c.args.b.now c.requires.b_value in
    tested.long

pub returns-then-number-ne0 : goal.returns-then-number-ne0
returns-then-number-ne0 c =
    let fault_is : c.series_fault-fault.result ≡ fault_in c.args.b.now c.args.series.now = c.series_fault-fault.ensures
    ∙ ap (series_fault c.args.series.now)
    (c.quarters_of.ensures ∙ ap (λ (h : Header). quarters_of h.year h.month) c.header_at-h.ensures) in
    sym (sound_refused _ _ _ c.series_fault-fault.result fault_is c.if-number-ne0.true)

pub count_at-n-requires : goal.count_at-n-requires
count_at-n-requires c =
    let tested : Accepted c.args.b.now = accepted_tests c.args.b.now c.requires.b_value in
    tested.long

pub records_earned-requires : goal.records_earned-requires
records_earned-requires c =
    let fault_is : c.series_fault-fault.result ≡ fault_in c.args.b.now c.args.series.now = c.series_fault-fault.ensures
    ∙ ap (series_fault c.args.series.now)
    (c.quarters_of.ensures ∙ ap (λ (h : Header). quarters_of h.year h.month) c.header_at-h.ensures) in
    let no_fault : (fault_in c.args.b.now c.args.series.now).number ≡ 0 = sym (ap (λ (v : Verdict). v.number) fault_is) ∙ c.if-number-ne0.false in
    let tested : Accepted c.args.b.now = accepted_tests c.args.b.now c.requires.b_value in
    let few : count_at c.args.b.now ≤ most_keys = accepted_few c.args.b.now c.requires.b_value in
    let k = tested.count in
    let w = few in
    let n = c.count_at-n.ensures.0 in
    let m = spans_month c.args.b.now c.args.series.now (series_sound _ _ no_fault) in
    record {
      small = ((line_of c.args.member c.requires.member_value).rated.1, m.1);
      count_in_bounds = omega arith;
      count_le_most_keys = omega arith;
      by_index = λ i l. rw m.0 (all_sound c.args.b.now c.requires.b_value i (omega arith));
    }

pub returns : goal.returns
returns c =
    let fault_is : c.series_fault-fault.result ≡ fault_in c.args.b.now c.args.series.now = c.series_fault-fault.ensures
    ∙ ap (series_fault c.args.series.now)
    (c.quarters_of.ensures ∙ ap (λ (h : Header). quarters_of h.year h.month) c.header_at-h.ensures) in
    let no_fault : (fault_in c.args.b.now c.args.series.now).number ≡ 0 = sym (ap (λ (v : Verdict). v.number) fault_is) ∙ c.if-number-ne0.false in
    let a = c.args in
    let book = record_at a.b.now in
    c.records_earned.ensures
    ∙ ap (λ (h : Header). records_earned (record { year = h.year; month = h.month }) a.member a.series.now book c.count_at-n.result)
    c.header_at-h.ensures
    ∙ ap (records_earned (month_at a.b.now) a.member a.series.now book) c.count_at-n.ensures.0
    ∙ sym (sound_records a.member a.b.now a.series.now no_fault)
