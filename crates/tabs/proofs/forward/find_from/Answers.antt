use Prim.Native.Nat.{◌<◌}
use native.Mathlib.Omega.{arith}
use lib.ListN.{length}
use borrow.Author.Tests.{eq-eqb, ne_eqb}
use Rattle.join.proofs.Taken.{lies}
use Rattle.tabs.proofs.Bringing.{seeks_next, seeks_there, seeks_over, run_there}
use Rattle.tabs.proofs.forward.find_from.Goals as goal

pub call_number_at-own-requires : goal.call_number_at-own-requires
call_number_at-own-requires c =
    let there : c.loop-at.at < length c.args.first.now =
    run_there c.loop-at.invariant.run c.loop-at-test.true in
    (lies c.loop-at.invariant.run.coming.read there).long

pub returns-then-own-number : goal.returns-then-own-number
returns-then-own-number c =
    let n = c.call_number_at-number.ensures in
    let k = c.call_number_at-own.ensures in
    rw (eq-eqb _ _ c.if-own-number.true) at
    (seeks_there c.loop-at.invariant c.loop-at-test.true (omega (arith, c.if-number-own.true)) _ _ k n)

pub returns-else-own-number : goal.returns-else-own-number
returns-else-own-number c =
    let n = c.call_number_at-number.ensures in
    let k = c.call_number_at-own.ensures in
    rw (ne_eqb _ _ c.if-own-number.false) at
    (seeks_there c.loop-at.invariant c.loop-at-test.true (omega (arith, c.if-number-own.true)) _ _ k n)

pub loop-at-preserved : goal.loop-at-preserved
loop-at-preserved c =
    let n = c.call_number_at-number.ensures in
    let k = c.call_number_at-own.ensures in
    seeks_next c.loop-at.invariant c.loop-at-test.true (omega (arith, c.if-number-own.false))

pub returns : goal.returns
returns c =
    let n = c.call_number_at-number.ensures in
    seeks_over c.loop-at.invariant (omega (arith, c.loop-at-test.false)) (omega arith)
