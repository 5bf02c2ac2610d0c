use Rattle.score.proofs.Turns.{none_before, none_free}
use native.Mathlib.Omega.{arith}
use mathlib.Core.Path.{sym, ◌∙◌}
use Rattle.score.proofs.First.{any_more, any_hit, any_less}
use Rattle.score.specs.Refusing.{clash_at}
use Rattle.book.specs.Book.{record_at}
use Rattle.score.proofs.refusal.clash_before.Goals as goal

pub returns-then-not-x-second : goal.returns-then-not-x-second
returns-then-not-x-second c =
    let a = c.args in
    let o = c.is_once-second in
    sym (none_free a.number a.x (record_at a.b.now) a.i (rw o.ensures at (c.if-not-x-second.true)))

pub loop-j-init : goal.loop-j-init
loop-j-init c =
    none_before c.args.number c.args.x (record_at c.args.b.now) c.args.first c.requires.none_before

pub returns-then-clashes : goal.returns-then-clashes
unfolding clash_at
returns-then-clashes c =
    let l = c.loop-j in
    let a = c.args in
    let f = clash_at a.number a.x (record_at a.b.now) in
    sym (any_hit f l.j a.i (omega arith) (rw (← c.record_at.ensures) (sym c.clashes.ensures ∙ c.if-clashes.true)))

pub loop-j-preserved : goal.loop-j-preserved
unfolding clash_at
loop-j-preserved c =
    let l = c.loop-j in
    let a = c.args in
    let f = clash_at a.number a.x (record_at a.b.now) in
    any_more f l.j l.invariant (rw (← c.record_at.ensures) (sym c.clashes.ensures ∙ c.if-clashes.false))

pub returns : goal.returns
returns c =
    let l = c.loop-j in
    let a = c.args in
    sym (any_less (clash_at a.number a.x (record_at a.b.now)) a.i l.j (omega arith) l.invariant)
