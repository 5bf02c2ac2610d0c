use native.Mathlib.Omega.{arith}
use mathlib.Core.Path.{refl, ◌∙◌, ap}
use Prim.Native.Nat.{◌≤◌}
use lib.ListN.{length}
use Rattle.units.specs.Month.{minutes_of}
use Rattle.units.proofs.Laws.{minutes_most}
use Rattle.book.specs.declared.Header.{Header}
use Rattle.book.specs.Book.{most_keys, size_of, calls_of}
use Rattle.pay.specs.Member.{most_rated}
use Rattle.pay.proofs.Within.{line_of}
use Rattle.reckon.specs.Reckoning.{walked, reckoned_grains}
use Rattle.reckon.proofs.Given.{BookGiven, book_given, series_given}
use Rattle.reckon.proofs.reckoned_grains.Goals as goal

pub header_at-h-requires : goal.header_at-h-requires
header_at-h-requires c =
    let book : BookGiven c.args.b.now = book_given c.args.b.now c.requires.b_value in
    book.long

pub count_at-n-requires : goal.count_at-n-requires
count_at-n-requires c =
    let book : BookGiven c.args.b.now = book_given c.args.b.now c.requires.b_value in
    book.long

pub walked-first-requires : goal.walked-first-requires
walked-first-requires c =
    let book : BookGiven c.args.b.now = book_given c.args.b.now c.requires.b_value in
    let ready : (c.args.member.rated.0 ≤ most_rated) × ((size_of c.count_at-n.result ≤ length c.args.b.now) × ((c.count_at-n.result ≤ most_keys) × (c.minutes_of-minutes.result ≤ 44640))) = let g
    = book in
    let n = c.count_at-n.ensures.0 in
    ((line_of c.args.member c.requires.member_value).rated.1, (omega (arith, g.size), (omega (arith, g.few), rw c.minutes_of-minutes.ensures (minutes_most _ _)))) in
    let told = ready in
    record { rated_le_most_rated = told.0; n_in_bounds = told.1.0; n_le_most_keys = told.1.1.0; minutes_le_most_minutes = told.1.1.1 }

pub walked-second-requires : goal.walked-second-requires
walked-second-requires c =
    let book : BookGiven c.args.b.now = book_given c.args.b.now c.requires.b_value in
    let ready : (c.args.member.rated.0 ≤ most_rated) × ((size_of c.count_at-n.result ≤ length c.args.b.now) × ((c.count_at-n.result ≤ most_keys) × (c.minutes_of-minutes.result ≤ 44640))) = let g
    = book in
    let n = c.count_at-n.ensures.0 in
    ((line_of c.args.member c.requires.member_value).rated.1, (omega (arith, g.size), (omega (arith, g.few), rw c.minutes_of-minutes.ensures (minutes_most _ _)))) in
    let told = ready in
    record { rated_le_most_rated = told.0; n_in_bounds = told.1.0; n_le_most_keys = told.1.1.0; minutes_le_most_minutes = told.1.1.1 }

pub others_earned-other-requires : goal.others_earned-other-requires
others_earned-other-requires c =
    let book : BookGiven c.args.b.now = book_given c.args.b.now c.requires.b_value in
    let ready : (c.args.member.rated.0 ≤ most_rated) × ((size_of c.count_at-n.result ≤ length c.args.b.now) × ((c.count_at-n.result ≤ most_keys) × (c.minutes_of-minutes.result ≤ 44640))) = let g
    = book in
    let n = c.count_at-n.ensures.0 in
    ((line_of c.args.member c.requires.member_value).rated.1, (omega (arith, g.size), (omega (arith, g.few), rw c.minutes_of-minutes.ensures (minutes_most _ _)))) in
    let r = ready in
    let n = c.count_at-n.ensures.0 in
    let g = series_given c.args.b.now c.args.series.now c.requires.b_value c.requires.series_len in
    record {
      small = (r.0, g.short);
      n_in_bounds = r.1.0;
      n_le_most_keys = r.1.1.0;
      by_index = λ i l. g.sound i (omega arith);
    }

pub overflow_add-sum : goal.overflow_add-sum
overflow_add-sum c =
    let book : BookGiven c.args.b.now = book_given c.args.b.now c.requires.b_value in
    let ready : (c.args.member.rated.0 ≤ most_rated) × ((size_of c.count_at-n.result ≤ length c.args.b.now) × ((c.count_at-n.result ≤ most_keys) × (c.minutes_of-minutes.result ≤ 44640))) = let g
    = book in
    let n = c.count_at-n.ensures.0 in
    ((line_of c.args.member c.requires.member_value).rated.1, (omega (arith, g.size), (omega (arith, g.few), rw c.minutes_of-minutes.ensures (minutes_most _ _)))) in
    let r = ready in
    let a = c.walked-first.ensures.1 in
    let b = c.walked-second.ensures.1 in
    omega (arith, r.1.1.1)

pub overflow_add-sum-2 : goal.overflow_add-sum-2
overflow_add-sum-2 c =
    let book : BookGiven c.args.b.now = book_given c.args.b.now c.requires.b_value in
    let ready : (c.args.member.rated.0 ≤ most_rated) × ((size_of c.count_at-n.result ≤ length c.args.b.now) × ((c.count_at-n.result ≤ most_keys) × (c.minutes_of-minutes.result ≤ 44640))) = let g
    = book in
    let n = c.count_at-n.ensures.0 in
    ((line_of c.args.member c.requires.member_value).rated.1, (omega (arith, g.size), (omega (arith, g.few), rw c.minutes_of-minutes.ensures (minutes_most _ _)))) in
    let r = ready in
    let a = c.walked-first.ensures.1 in
    let b = c.walked-second.ensures.1 in
    let o = c.others_earned-other.ensures.most in
    omega (arith, r.1.1.0, r.1.1.1)

pub month_pay-requires : goal.month_pay-requires
month_pay-requires c =
    let book : BookGiven c.args.b.now = book_given c.args.b.now c.requires.b_value in
    let ready : (c.args.member.rated.0 ≤ most_rated) × ((size_of c.count_at-n.result ≤ length c.args.b.now) × ((c.count_at-n.result ≤ most_keys) × (c.minutes_of-minutes.result ≤ 44640))) = let g
    = book in
    let n = c.count_at-n.ensures.0 in
    ((line_of c.args.member c.requires.member_value).rated.1, (omega (arith, g.size), (omega (arith, g.few), rw c.minutes_of-minutes.ensures (minutes_most _ _)))) in
    let r = ready in
    let a = c.walked-first.ensures.1 in
    let b = c.walked-second.ensures.1 in
    let o = c.others_earned-other.ensures in
    record {
      other_le_most_month_pay = omega (arith, r.1.1.0, r.1.1.1, o.most);
      x_bound = o.span;
    }

pub returns : goal.returns
unfolding reckoned_grains walked calls_of
returns c =
    let a = c.args in
    let o = c.others_earned-other.ensures in
    let n = c.count_at-n.ensures.0 in
    let h = c.header_at-h.ensures in
    let k = c.minutes_of-minutes.ensures ∙ ap (λ (h : Header). minutes_of h.year h.month) h in
    c.month_pay.ensures ∙ rw (c.walked-first.ensures.0, c.walked-second.ensures.0, o.pays, o.energy, n, k) refl
