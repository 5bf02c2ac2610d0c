use mathlib.Core.Path.{sym, ◌∙◌}
use native.Mathlib.Omega.{arith}
use Rattle.month.proofs.Listing.{unlisted_here, unlisted_next, unlisted_none}
use Rattle.month.proofs.listed.first_unlisted.Goals as goal

pub returns-then-is_unlisted : goal.returns-then-is_unlisted
returns-then-is_unlisted c =
    let l = c.loop-i in
    let z = unlisted_here c.args.entries.now c.args.book.now l.i c.args.n (omega arith) (sym (rw c.record_at-c.ensures at c.is_unlisted.ensures) ∙ c.if-is_unlisted.true) in
    omega (arith, l.invariant)

pub loop-i-preserved : goal.loop-i-preserved
loop-i-preserved c =
    let l = c.loop-i in
    let z = unlisted_next c.args.entries.now c.args.book.now l.i c.args.n (omega arith) (sym (rw c.record_at-c.ensures at c.is_unlisted.ensures) ∙ c.if-is_unlisted.false) in
    omega (arith, l.invariant)

pub returns : goal.returns
returns c =
    let l = c.loop-i in
    let z = unlisted_none c.args.entries.now c.args.book.now l.i c.args.n (omega arith) in
    omega (arith, l.invariant)
