use native.Mathlib.Omega.{arith}
use mathlib.Core.Path.{◌≡◌, refl, sym, ◌∙◌, ap}
use Prim.Native.Nat.{ℕ, ◌≤◌}
use Rattle.score.proofs.First.{first_more, first_le}
use Rattle.score.specs.Refusing.{own_at, first_own}
use Rattle.score.specs.Scoring.{month_grains}
use Rattle.score.proofs.Turns.{before_own, skipped, records_refused, records_sum}
use Rattle.score.proofs.Ends.{kept_none}
use Rattle.book.specs.Book.{record_at}
use Rattle.pay.proofs.Sums.{total0_step, total_z_step}
use Rattle.pay.proofs.Signed.{mag_plus}
use Rattle.score.specs.declared.answer.Earned.TheVariants.{Accepted, Refused}
use Rattle.score.proofs.records.records_earned.Goals as goal

pub loop-i-init : goal.loop-i-init
unfolding first_own
loop-i-init c =
    let book = record_at c.args.b.now in
    let f = c.first_own-first in
    let l : f.result ≤ c.args.count = rw f.ensures (first_le (own_at c.args.member.number book) c.args.count) in
    let n = before_own c.args.member.number book c.args.count f.result f.ensures in
    let k = skipped c.args.month c.args.member c.args.series.now book f.result n in
    (omega arith, k.refusals, sym k.pays, omega arith, sym k.energy, omega arith, kept_none c.args.member.number book f.result n)

pub turn_of-t-requires-clause-none_before : goal.turn_of-t-requires-clause-none_before
turn_of-t-requires-clause-none_before c =
    let f = c.first_own-first in
    before_own c.args.member.number (record_at c.args.b.now) c.args.count f.result f.ensures

pub returns-then-number-ne0 : goal.returns-then-number-ne0
returns-then-number-ne0 c =
    let l = c.loop-i in
    let e = c.turn_of-t.ensures.score_turned.refusal in
    ap (λ (n : ℕ). Refused n l.i) e ∙ sym (records_refused _ _ _ _ _ l.i (omega arith) l.invariant.1 (λ z. c.if-number-ne0.true (e ∙ z)))

pub loop-i-preserved : goal.loop-i-preserved
loop-i-preserved c =
    let l = c.loop-i in
    let t = c.turn_of-t in
    let z = c.if-number-ne0.false in (
      omega arith,
      first_more _ l.i l.invariant.1 (sym t.ensures.score_turned.refusal ∙ z),
      total0_step _ l.i l.invariant.2 (t.ensures.score_turned.pays z),
      omega arith,
      c.added-wh.ensures ∙ total_z_step _ l.i _ _ l.invariant.4 (t.ensures.score_turned.energy z),
      rw c.added-wh.ensures (omega (arith, mag_plus l.wh.0 t.result.wh.0)),
      t.ensures.ends_kept_2 z,
    )

pub returns : goal.returns
unfolding month_grains
returns c =
    let l = c.loop-i in
    let e : l.i ≡ c.args.count = omega arith in
    ap (λ (n : ℕ). Accepted (record { 0 = n })) (c.month_pay-sum.ensures ∙ rw (l.invariant.2, l.invariant.4, e) refl) ∙ sym (records_sum _ _ _ _ _ (rw (← e) l.invariant.1))
