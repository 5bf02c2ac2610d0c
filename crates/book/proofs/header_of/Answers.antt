use mathlib.Core.Path.{◌≡◌, sym, ◌∙◌, ap}
use native.Mathlib.Omega.{arith}
use Rattle.book.specs.declared.Opened.{Opened}
use Rattle.book.specs.declared.Verdict.{Verdict}
use Rattle.book.specs.Check.{accepted, check}
use Rattle.book.proofs.Exact.{accepted_tests}
use Rattle.book.proofs.Judged.{zero_accepted}
use Rattle.book.proofs.Opening.{told_refused, told_sound}
use Rattle.book.proofs.header_of.Goals as goal

pub returns-then-v-ne0 : goal.returns-then-v-ne0
returns-then-v-ne0 c =
    let e = c.turned_away.ensures in
    let z : (c.check-v.result.number ≡ 0 → ⊥) = λ n. omega (arith, n, c.if-v-ne0.true) in record {
      value = e ∙ told_refused _ _ c.check-v.ensures z;
      b_value = λ n. absurd (z (ap (λ (o : Opened). o.number) (sym e) ∙ n));
      calls_bound = omega (arith, ap (λ (o : Opened). o.calls) e);
    }

pub version_at-version-requires : goal.version_at-version-requires
version_at-version-requires c =
    let number_is : (check c.args.b.now).number ≡ 0 =
    omega (arith, ap (λ (v : Verdict). v.number) c.check-v.ensures, c.if-v-ne0.false) in
    let is_accepted_lem : check c.args.b.now ≡ accepted =
    zero_accepted _ number_is in
    (accepted_tests _ is_accepted_lem).long

pub header_at-header-requires : goal.header_at-header-requires
header_at-header-requires c =
    let number_is : (check c.args.b.now).number ≡ 0 =
    omega (arith, ap (λ (v : Verdict). v.number) c.check-v.ensures, c.if-v-ne0.false) in
    let is_accepted_lem : check c.args.b.now ≡ accepted =
    zero_accepted _ number_is in
    (accepted_tests _ is_accepted_lem).long

pub count_at-calls-requires : goal.count_at-calls-requires
count_at-calls-requires c =
    let number_is : (check c.args.b.now).number ≡ 0 =
    omega (arith, ap (λ (v : Verdict). v.number) c.check-v.ensures, c.if-v-ne0.false) in
    let is_accepted_lem : check c.args.b.now ≡ accepted =
    zero_accepted _ number_is in
    (accepted_tests _ is_accepted_lem).long

pub returns : goal.returns
returns c =
    let number_is : (check c.args.b.now).number ≡ 0 =
    omega (arith, ap (λ (v : Verdict). v.number) c.check-v.ensures, c.if-v-ne0.false) in
    let is_accepted_lem : check c.args.b.now ≡ accepted =
    zero_accepted _ number_is in
    let v = c.version_at-version.ensures in
    let e = c.header_at-header.ensures in
    let n = c.count_at-calls.ensures.0 in record {
      value = (λ i. record { number = 0; place = 0; version = v i; header = e i; calls = n i }) ∙ told_sound _ number_is;
      b_value = λ z. is_accepted_lem;
      calls_bound = omega (arith, n);
    }
