use Rattle.score.proofs.Turns.{own_yes, own_not}
use Rattle.call.specs.declared.Call.{Call}
use native.Mathlib.Omega.{arith}
use mathlib.Core.Path.{◌≡◌, sym, ◌∙◌, ap}
use Rattle.score.proofs.First.{first_none, first_more, first_hit}
use Rattle.score.specs.Refusing.{own_at, first_own}
use Rattle.book.specs.Book.{record_at}
use Rattle.score.proofs.refusal.first_own.Goals as goal

pub loop-i-init : goal.loop-i-init
loop-i-init c = first_none _

pub returns-then-x-number : goal.returns-then-x-number
unfolding first_own
returns-then-x-number c =
    let l = c.loop-i in
    let a = c.args in
    let x = ap (λ (y : Call). y.participant) c.record_at-x.ensures in
    let book = record_at a.b.now in
    sym (first_hit (own_at a.number book) l.i a.count (omega arith) l.invariant (own_yes a.number book l.i (sym x ∙ c.if-x-number.true)))

pub loop-i-preserved : goal.loop-i-preserved
loop-i-preserved c =
    let l = c.loop-i in
    let a = c.args in
    let x = ap (λ (y : Call). y.participant) c.record_at-x.ensures in
    let book = record_at a.b.now in
    first_more (own_at a.number book) l.i l.invariant (own_not a.number book l.i (λ e. c.if-x-number.false (x ∙ e)))

pub returns : goal.returns
unfolding first_own
returns c =
    let l = c.loop-i in
    let e : l.i ≡ c.args.count = omega arith in
    rw (← e) (sym l.invariant)
