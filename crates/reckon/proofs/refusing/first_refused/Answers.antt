use native.Mathlib.Omega.{arith}
use mathlib.Core.Path.{◌≡◌, sym, ◌∙◌}
use Rattle.book.specs.Book.{record_at}
use Rattle.score.specs.Scoring.{first_refused}
use Rattle.score.proofs.First.{first_none, first_more, first_hit}
use Rattle.score.proofs.Turns.{before_own}
use Rattle.reckon.proofs.refusing.first_refused.Goals as goal

pub loop-i-init : goal.loop-i-init
loop-i-init c = first_none _

pub refusal_of-number-requires-clause-none_before : goal.refusal_of-number-requires-clause-none_before
refusal_of-number-requires-clause-none_before c =
    let f = c.first_own-first in
    before_own c.args.member.number (record_at c.args.b.now) c.args.n f.result f.ensures

pub returns-then-number-ne0 : goal.returns-then-number-ne0
unfolding first_refused
returns-then-number-ne0 c =
    let l = c.loop-i in
    let e = c.refusal_of-number.ensures in
    sym (first_hit _ l.i _ (omega arith) l.invariant (λ z. c.if-number-ne0.true (e ∙ z)))

pub loop-i-preserved : goal.loop-i-preserved
loop-i-preserved c =
    let l = c.loop-i in
    first_more _ l.i l.invariant (sym c.refusal_of-number.ensures ∙ c.if-number-ne0.false)

pub returns : goal.returns
unfolding first_refused
returns c =
    let l = c.loop-i in
    let e : l.i ≡ c.args.n = omega arith in
    rw (← e) (sym l.invariant)
