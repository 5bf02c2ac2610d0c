use native.Mathlib.Omega.{arith}
use mathlib.Core.Path.{◌≡◌, sym, ◌∙◌, ap}
use Prim.Native.Nat.{ℕ}
use Rattle.book.specs.declared.Header.{Header}
use Rattle.book.specs.Book.{count_at, record_at}
use Rattle.score.specs.declared.answer.Earned.TheVariants.{Accepted, Refused}
use Rattle.score.specs.Refusing.{refusal_at}
use Rattle.score.specs.Scoring.{first_refused, month_at}
use Rattle.reckon.proofs.Given.{BookGiven, book_given}
use Rattle.reckon.proofs.Answers.{records_refused, records_sum}
use Rattle.reckon.proofs.records_reckoned.Goals as goal

pub header_at-h-requires : goal.header_at-h-requires
header_at-h-requires c =
    let book : BookGiven c.args.b.now = book_given c.args.b.now c.requires.b_value in
    book.long

pub count_at-n-requires : goal.count_at-n-requires
count_at-n-requires c =
    let book : BookGiven c.args.b.now = book_given c.args.b.now c.requires.b_value in
    book.long

pub first_refused-at-requires : goal.first_refused-at-requires
first_refused-at-requires c =
    let book : BookGiven c.args.b.now = book_given c.args.b.now c.requires.b_value in
    let g = book in
    let n = c.count_at-n.ensures.0 in
    record {
      n_in_bounds = omega (arith, g.size);
      by_index = λ i l. g.states i (omega arith);
    }

pub refusal_of-number-requires : goal.refusal_of-number-requires
refusal_of-number-requires c =
    let book : BookGiven c.args.b.now = book_given c.args.b.now c.requires.b_value in
    let g = book in
    let n = c.count_at-n.ensures.0 in
    record {
      has_record = omega (arith, g.size);
      i_bound = g.states c.first_refused-at.result (omega arith);
      none_before = λ k l e. absurd (omega arith);
    }

pub returns-then-at-n : goal.returns-then-at-n
returns-then-at-n c =
    let book : BookGiven c.args.b.now = book_given c.args.b.now c.requires.b_value in
    let first : c.first_refused-at.result ≡ first_refused (month_at c.args.b.now) c.args.member (record_at c.args.b.now) (count_at c.args.b.now) = let a = c.args in
    let book = record_at a.b.now in
    c.first_refused-at.ensures
    ∙ ap (λ (h : Header). first_refused (record { year = h.year; month = h.month }) a.member book c.count_at-n.result) c.header_at-h.ensures
    ∙ ap (first_refused (month_at a.b.now) a.member book) c.count_at-n.ensures.0 in
    let a = c.args in
    let at = c.first_refused-at.result in
    let h = c.header_at-h.ensures in
    let e = c.refusal_of-number.ensures ∙ ap (λ (h : Header). refusal_at (record { year = h.year; month = h.month }) a.member (record_at a.b.now) at) h in
    let n = c.count_at-n.ensures.0 in
    ap (λ (k : ℕ). Refused k at) e ∙ sym (records_refused a.member a.b.now a.series.now at first (omega arith))

pub returns : goal.returns
returns c =
    let book : BookGiven c.args.b.now = book_given c.args.b.now c.requires.b_value in
    let first : c.first_refused-at.result ≡ first_refused (month_at c.args.b.now) c.args.member (record_at c.args.b.now) (count_at c.args.b.now) = let a = c.args in
    let book = record_at a.b.now in
    c.first_refused-at.ensures
    ∙ ap (λ (h : Header). first_refused (record { year = h.year; month = h.month }) a.member book c.count_at-n.result) c.header_at-h.ensures
    ∙ ap (first_refused (month_at a.b.now) a.member book) c.count_at-n.ensures.0 in
    let a = c.args in
    let n = c.count_at-n.ensures.0 in
    ap (λ (k : ℕ). Accepted (record { 0 = k })) c.reckoned_grains-grains.ensures
    ∙ sym (records_sum a.member a.b.now a.series.now c.first_refused-at.result first (omega arith))
