use mathlib.Core.Path.{◌≡◌, sym, ◌∙◌, ap}
use Prim.Native.Nat.{◌<◌}
use native.Mathlib.Omega.{arith}
use Rattle.book.specs.declared.Header.{Header}
use Rattle.book.specs.Book.{count_at, record_at}
use Rattle.score.specs.Refusing.{refusal_at}
use Rattle.score.specs.Scoring.{month_at}
use Rattle.score.proofs.Turns.{before_own, state_low}
use Rattle.score.proofs.Checked.{all_sound}
use Rattle.lookup.proofs.Places.{fits}
use Rattle.join.proofs.Books.{long, size}
use Rattle.drawer.specs.declared.refused.NextRefused.TheVariants.{Next}
use Rattle.drawer.specs.Refused.{is_refused_at, refused_at, refused_of, first_refusal}
use Rattle.drawer.proofs.Telling.{told_hit, told_miss, told_end}
use Rattle.drawer.proofs.Refusals.{is_refused, not_refused}
use Rattle.drawer.proofs.refused.refused_from.Goals as goal

pub header_at-h-requires : goal.header_at-h-requires
header_at-h-requires c = long _ c.requires

pub count_at-n-requires : goal.count_at-n-requires
count_at-n-requires c = long _ c.requires

pub first_own-first-requires : goal.first_own-first-requires
first_own-first-requires c = omega (arith, c.count_at-n.ensures.0, size _ c.requires)

pub refusal_of-number-requires : goal.refusal_of-number-requires
refusal_of-number-requires c =
    let inside : c.loop-at.at < count_at c.args.b.now =
    omega (arith, c.count_at-n.ensures.0) in
    let f = c.first_own-first in record {
      has_record = (fits _ _ c.requires inside).1;
      i_bound = state_low _ _ (all_sound _ c.requires _ inside);
      none_before = before_own c.args.member.number
          (record_at c.args.b.now) _ f.result f.ensures;
    }

pub refused_at-told-requires : goal.refused_at-told-requires
refused_at-told-requires c =
    let inside : c.loop-at.at < count_at c.args.b.now =
    omega (arith, c.count_at-n.ensures.0) in
    let number_is : let a = c.args in c.refusal_of-number.result ≡ refusal_at (month_at a.b.now) a.member (record_at a.b.now) c.loop-at.at =
    let a = c.args in
    let at = c.loop-at.at in
    c.refusal_of-number.ensures
    ∙ ap (λ (h : Header). refusal_at (record { year = h.year; month = h.month }) a.member (record_at a.b.now) at) c.header_at-h.ensures in
    record { has_record = (fits _ _ c.requires inside).1; number_value = number_is }

pub returns-then-number-ne0 : goal.returns-then-number-ne0
unfolding refused_of first_refusal
returns-then-number-ne0 c =
    let inside : c.loop-at.at < count_at c.args.b.now =
    omega (arith, c.count_at-n.ensures.0) in
    let number_is : let a = c.args in c.refusal_of-number.result ≡ refusal_at (month_at a.b.now) a.member (record_at a.b.now) c.loop-at.at =
    let a = c.args in
    let at = c.loop-at.at in
    c.refusal_of-number.ensures
    ∙ ap (λ (h : Header). refusal_at (record { year = h.year; month = h.month }) a.member (record_at a.b.now) at) c.header_at-h.ensures in
    let a = c.args in
    let l = c.loop-at in
    let its = is_refused a.member a.b.now l.at c.refusal_of-number.result number_is c.if-number-ne0.true in
    let hit = told_hit (is_refused_at a.member a.b.now) (refused_at a.member a.b.now) _ l.at inside its in
    ap Next c.refused_at-told.ensures ∙ ap first_refusal (sym hit ∙ l.invariant)

pub loop-at-preserved : goal.loop-at-preserved
unfolding refused_of
loop-at-preserved c =
    let inside : c.loop-at.at < count_at c.args.b.now =
    omega (arith, c.count_at-n.ensures.0) in
    let number_is : let a = c.args in c.refusal_of-number.result ≡ refusal_at (month_at a.b.now) a.member (record_at a.b.now) c.loop-at.at =
    let a = c.args in
    let at = c.loop-at.at in
    c.refusal_of-number.ensures
    ∙ ap (λ (h : Header). refusal_at (record { year = h.year; month = h.month }) a.member (record_at a.b.now) at) c.header_at-h.ensures in
    let a = c.args in
    let l = c.loop-at in
    let its = not_refused a.member a.b.now l.at c.refusal_of-number.result number_is c.if-number-ne0.false in
    told_miss (is_refused_at a.member a.b.now) (refused_at a.member a.b.now) _ l.at inside its ∙ l.invariant

pub returns : goal.returns
unfolding refused_of first_refusal
returns c =
    let a = c.args in
    let l = c.loop-at in
    let end = told_end (is_refused_at a.member a.b.now) (refused_at a.member a.b.now) (count_at a.b.now) l.at (omega (arith, c.count_at-n.ensures.0)) in
    ap first_refusal (sym end ∙ l.invariant)
