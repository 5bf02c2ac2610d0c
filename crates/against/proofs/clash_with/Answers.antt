use mathlib.Core.Path.{◌≡◌, sym, ◌∙◌}
use native.Mathlib.Omega.{arith}
use Rattle.book.specs.Book.{record_at}
use Rattle.against.proofs.Found.{none_yet, not_this, this_one, none_at_all, as_clash}
use Rattle.against.proofs.clash_with.Goals as goal

pub loop-j-init : goal.loop-j-init
loop-j-init c = let a = c.args in none_yet (record_at a.b.now) a.i

pub returns-then-clashes : goal.returns-then-clashes
returns-then-clashes c =
    let l = c.loop-j in
    let a = c.args in
    this_one (record_at a.b.now) a.i l.j _ (omega arith) l.invariant (as_clash _ _ _ _ _ c.clashes.ensures c.record_at-x.ensures c.record_at.ensures) c.if-clashes.true

pub loop-j-preserved : goal.loop-j-preserved
loop-j-preserved c =
    let l = c.loop-j in
    let a = c.args in
    let e = as_clash _ _ _ _ _ c.clashes.ensures c.record_at-x.ensures c.record_at.ensures in
    not_this (record_at a.b.now) a.i l.j _ l.invariant e c.if-clashes.false

pub returns : goal.returns
returns c =
    let l = c.loop-j in
    let a = c.args in
    let e : l.j ≡ a.i = omega arith in
    sym e ∙ none_at_all (record_at a.b.now) a.i l.j e l.invariant
