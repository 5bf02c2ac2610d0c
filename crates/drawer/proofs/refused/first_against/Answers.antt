use mathlib.Core.Path.{◌≡◌, sym, ◌∙◌}
use native.Mathlib.Omega.{arith}
use Rattle.book.specs.Book.{record_at}
use Rattle.score.proofs.First.{first_none, first_more, first_hit}
use Rattle.drawer.specs.Refused.{against_at, first_against}
use Rattle.drawer.proofs.Refusals.{against_yes, against_not}
use Rattle.drawer.proofs.refused.first_against.Goals as goal

pub loop-j-init : goal.loop-j-init
loop-j-init c = first_none _

pub returns-then-clashes : goal.returns-then-clashes
unfolding first_against
returns-then-clashes c =
    let l = c.loop-j in
    let a = c.args in
    let book = record_at a.b.now in
    sym (first_hit (against_at a.number a.x book) l.j a.i (omega arith) l.invariant
    (against_yes a.number a.x book l.j (rw (← c.record_at.ensures) (sym c.clashes.ensures ∙ c.if-clashes.true))))

pub loop-j-preserved : goal.loop-j-preserved
loop-j-preserved c =
    let l = c.loop-j in
    let a = c.args in
    let book = record_at a.b.now in
    first_more (against_at a.number a.x book) l.j l.invariant
    (against_not a.number a.x book l.j (rw (← c.record_at.ensures) (sym c.clashes.ensures ∙ c.if-clashes.false)))

pub returns : goal.returns
unfolding first_against
returns c =
    let l = c.loop-j in
    let e : l.j ≡ c.args.i = omega arith in
    rw (← e) (sym l.invariant)
