use mathlib.Core.Path.{◌≡◌, ap, sym, ◌∙◌}
use native.Mathlib.Omega.{arith}
use lib.ListN.{length, take, drop, length-set, length-replicate}
use lib.Seq.{take_all, take_at}
use Rattle.apportion.proofs.Loops.{over_step}
use Rattle.ceiling.specs.Inner.{parts_in, blank_limited}
use Rattle.fitting.specs.Fitting.{own_limits}
use Rattle.fitting.proofs.Walks.{length_limits_of, limit_of}
use borrow.Author.Rules.{rules}
use Rattle.fitting.proofs.own.own_limits.Goals as goal

pub loop-i-preserved : goal.loop-i-preserved
loop-i-preserved c =
    let a = c.args in
    let l = c.loop-i in
    let blank = c.blank_limiteds-limited.result in
    let wide : length blank ≡ 64 = rw c.blank_limiteds-limited.ensures (length-replicate 64 blank_limited) in
    let long : length a.rows ≡ 64 = search rules in
    let long₂ : length a.shared ≡ 64 = search rules in
    let all = own_limits a.negative (take a.count a.rows) (parts_in (take a.count a.shared)) in
    let lu = length_limits_of a.negative a.rows a.shared a.count (omega arith) (omega arith) in (
      simp length-set l.invariant.0,
      over_step blank all l.limited l.i blank_limited c.own_limited.result l.invariant.1 (omega arith) (omega arith)
          (limit_of a.negative a.rows a.shared a.count (omega arith) (omega arith) l.i _ blank_limited (omega arith) ∙ sym c.own_limited.ensures),
    )

pub returns : goal.returns
returns c =
    let a = c.args in
    let l = c.loop-i in
    let long : length a.rows ≡ 64 = search rules in
    let long₂ : length a.shared ≡ 64 = search rules in
    let all = own_limits a.negative (take a.count a.rows) (parts_in (take a.count a.shared)) in
    let lu = length_limits_of a.negative a.rows a.shared a.count (omega arith) (omega arith) in
    ap (take a.count) (l.invariant.1 ∙ rw (take_all l.i all (omega arith))) ∙ take_at all (drop l.i c.blank_limiteds-limited.result) a.count lu
