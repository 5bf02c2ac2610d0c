use mathlib.Core.Path.{◌≡◌, sym, ap, ◌∙◌}
use Prim.Native.Nat.{◌≤◌}
use native.Mathlib.Omega.{arith}
use lib.ListN.{length, take}
use lib.Seq.{length-take-le}
use Rattle.book.specs.declared.Verdict.{Verdict}
use Rattle.book.specs.Check.{check}
use Rattle.book.proofs.Exact.{Accepted, accepted_tests}
use Rattle.book.proofs.Judged.{zero_accepted}
use Rattle.share.specs.Sharing.{most_part}
use Rattle.register.specs.Register.{first_bad_entry}
use Rattle.month.proofs.Settled.{take_seen, few_entries, in_part, in_register, in_book, unlisted, listed}
use borrow.Author.Rules.{rules}
use Rattle.month.proofs.settle.Goals as goal

pub returns-then-part-gt-MOST_PART : goal.returns-then-part-gt-MOST_PART
returns-then-part-gt-MOST_PART c = c.month_refused.ensures ∙ in_part _ c.if-part-gt-MOST_PART.true

pub returns-then-bad-count : goal.returns-then-bad-count
returns-then-bad-count c =
    let fair : c.args.part ≤ most_part =
    omega arith in
    let bad_is : let a = c.args in c.first_bad_entry-bad.result ≡ first_bad_entry 0 (take a.count a.entries) =
    let a = c.args in
    let long : length a.entries ≡ 64 = search rules in
    c.first_bad_entry-bad.ensures ∙ ap (first_bad_entry 0) (take_seen a.entries a.count c.seen.result long c.seen.ensures.0) in
    let b = bad_is in
    c.month_refused-then-bad-count.ensures ∙ rw b (in_register _ fair (rw b at c.if-bad-count.true))

pub returns-then-number-ne0 : goal.returns-then-number-ne0
returns-then-number-ne0 c =
    let fair : c.args.part ≤ most_part =
    omega arith in
    let bad_is : let a = c.args in c.first_bad_entry-bad.result ≡ first_bad_entry 0 (take a.count a.entries) =
    let a = c.args in
    let long : length a.entries ≡ 64 = search rules in
    c.first_bad_entry-bad.ensures ∙ ap (first_bad_entry 0) (take_seen a.entries a.count c.seen.result long c.seen.ensures.0) in
    let sound : let a = c.args in a.count ≤ first_bad_entry 0 (take a.count a.entries) =
    omega (arith, bad_is) in
    c.month_refused-then-number-ne0.ensures ∙ in_book _ fair sound _ c.check-verdict.ensures c.if-number-ne0.true

pub count_at-n-requires : goal.count_at-n-requires
count_at-n-requires c =
    let book_is : (check c.args.book.now).number ≡ 0 =
    sym (ap (λ (v : Verdict). v.number) c.check-verdict.ensures) ∙ c.if-number-ne0.false in
    let book_sound : Accepted c.args.book.now =
    accepted_tests _ (zero_accepted _ book_is) in
    book_sound.long

pub slice_bounds-entries-end : goal.slice_bounds-entries-end
slice_bounds-entries-end c =
    let a = c.args in
    let long : length a.entries ≡ 64 = search rules in
    let bad_is : c.first_bad_entry-bad.result ≡ first_bad_entry 0 (take a.count a.entries) =
    c.first_bad_entry-bad.ensures ∙ ap (first_bad_entry 0) (take_seen a.entries a.count c.seen.result long c.seen.ensures.0) in
    omega (arith, few_entries a.entries a.count long (omega (arith, bad_is)))

pub slice_bounds-lines-end : goal.slice_bounds-lines-end
slice_bounds-lines-end c =
    let a = c.args in
    let long : length a.entries ≡ 64 = search rules in
    let bad_is : c.first_bad_entry-bad.result ≡ first_bad_entry 0 (take a.count a.entries) =
    c.first_bad_entry-bad.ensures ∙ ap (first_bad_entry 0) (take_seen a.entries a.count c.seen.result long c.seen.ensures.0) in
    sym (length-take-le a.count a.entries (omega (arith, few_entries a.entries a.count long (omega (arith, bad_is)))))

pub first_unlisted-call-requires : goal.first_unlisted-call-requires
first_unlisted-call-requires c =
    let book_is : (check c.args.book.now).number ≡ 0 =
    sym (ap (λ (v : Verdict). v.number) c.check-verdict.ensures) ∙ c.if-number-ne0.false in
    let book_sound : Accepted c.args.book.now =
    accepted_tests _ (zero_accepted _ book_is) in
    let k = book_sound.count in
    omega (arith, c.count_at-n.ensures.0)

pub returns-then-call-n : goal.returns-then-call-n
returns-then-call-n c =
    let fair : c.args.part ≤ most_part =
    omega arith in
    let bad_is : let a = c.args in c.first_bad_entry-bad.result ≡ first_bad_entry 0 (take a.count a.entries) =
    let a = c.args in
    let long : length a.entries ≡ 64 = search rules in
    c.first_bad_entry-bad.ensures ∙ ap (first_bad_entry 0) (take_seen a.entries a.count c.seen.result long c.seen.ensures.0) in
    let sound : let a = c.args in a.count ≤ first_bad_entry 0 (take a.count a.entries) =
    omega (arith, bad_is) in
    let book_is : (check c.args.book.now).number ≡ 0 =
    sym (ap (λ (v : Verdict). v.number) c.check-verdict.ensures) ∙ c.if-number-ne0.false in
    c.month_refused-then-call-n.ensures
    ∙ unlisted _ fair sound book_is _ _ c.count_at-n.ensures.0 c.first_unlisted-call.ensures c.if-call-n.true

pub earned_month-requires : goal.earned_month-requires
earned_month-requires c =
    let bad_is : let a = c.args in c.first_bad_entry-bad.result ≡ first_bad_entry 0 (take a.count a.entries) =
    let a = c.args in
    let long : length a.entries ≡ 64 = search rules in
    c.first_bad_entry-bad.ensures ∙ ap (first_bad_entry 0) (take_seen a.entries a.count c.seen.result long c.seen.ensures.0) in
    let sound : let a = c.args in a.count ≤ first_bad_entry 0 (take a.count a.entries) =
    omega (arith, bad_is) in
    let few : c.args.count ≤ 64 =
    let a = c.args in
    let long : length a.entries ≡ 64 = search rules in
    few_entries a.entries a.count long sound in
    let book_is : (check c.args.book.now).number ≡ 0 =
    sym (ap (λ (v : Verdict). v.number) c.check-verdict.ensures) ∙ c.if-number-ne0.false in
    let book_sound : Accepted c.args.book.now =
    accepted_tests _ (zero_accepted _ book_is) in
    record { has_header = book_sound.long; count_le_most_entries = few }

pub returns : goal.returns
returns c =
    let fair : c.args.part ≤ most_part =
    omega arith in
    let bad_is : let a = c.args in c.first_bad_entry-bad.result ≡ first_bad_entry 0 (take a.count a.entries) =
    let a = c.args in
    let long : length a.entries ≡ 64 = search rules in
    c.first_bad_entry-bad.ensures ∙ ap (first_bad_entry 0) (take_seen a.entries a.count c.seen.result long c.seen.ensures.0) in
    let sound : let a = c.args in a.count ≤ first_bad_entry 0 (take a.count a.entries) =
    omega (arith, bad_is) in
    let book_is : (check c.args.book.now).number ≡ 0 =
    sym (ap (λ (v : Verdict). v.number) c.check-verdict.ensures) ∙ c.if-number-ne0.false in
    c.earned_month.ensures
    ∙ listed _ fair sound book_is _ _ c.count_at-n.ensures.0 c.first_unlisted-call.ensures (omega arith)
