use native.Mathlib.Omega.{arith}
use mathlib.Core.Path.{◌≡◌, refl, sym, ◌∙◌}
use Prim.Native.Nat.{◌+◌, ◌-◌}
use Rattle.reckon.specs.Inner.{calls_at}
use Rattle.day_runs.proofs.Goes.{one_longer, no_longer, length_last}
use Rattle.day_runs.proofs.runs.run_length.Goals as goal

pub returns-then-not-goes_on : goal.returns-then-not-goes_on
returns-then-not-goes_on c =
    let a = c.args in
    let l = c.loop-gone in
    let h = sym c.goes_on.ensures ∙ c.if-not-goes_on.true in
    let n = no_longer a.series.now (calls_at a.b.now a.places.now) a.minute a.left l.gone (omega arith) h in
    (sym (l.invariant ∙ rw n refl), omega arith)

pub loop-gone-preserved : goal.loop-gone-preserved
loop-gone-preserved c =
    let a = c.args in
    let l = c.loop-gone in
    let h = sym c.goes_on.ensures ∙ c.if-not-goes_on.false in
    let n = one_longer a.series.now (calls_at a.b.now a.places.now) a.minute a.left l.gone (omega arith) h in
    omega (arith, l.invariant, n)

pub returns : goal.returns
returns c =
    let a = c.args in
    let l = c.loop-gone in
    let e : a.left - l.gone ≡ 1 = omega arith in
    (omega (arith, rw e at l.invariant, length_last a.series.now (calls_at a.b.now a.places.now) (a.minute + l.gone)), omega arith)
