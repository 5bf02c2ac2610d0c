use native.Mathlib.Omega.{arith}
use mathlib.Core.Path.{sym, ◌∙◌}
use native.Mathlib.Nat.{add-zero}
use Rattle.day_runs.proofs.Goes.{covered_hit, covered_miss, covered_none}
use Rattle.day_runs.proofs.runs.covered_by.Goals as goal

pub returns-then-covers : goal.returns-then-covers
returns-then-covers c =
    let a = c.args in
    let l = c.loop-k in
    let t = rw c.record_at-x.ensures at (sym c.covers.ensures ∙ c.if-covers.true) in
    sym (l.invariant ∙ rw (covered_hit a.b.now a.places.now a.minute l.k (omega arith) t) (add-zero l.k))

pub loop-k-preserved : goal.loop-k-preserved
loop-k-preserved c =
    let a = c.args in
    let l = c.loop-k in
    let t = rw c.record_at-x.ensures at (sym c.covers.ensures ∙ c.if-covers.false) in
    omega (arith, l.invariant, covered_miss a.b.now a.places.now a.minute l.k (omega arith) t)

pub returns : goal.returns
returns c =
    let a = c.args in
    let l = c.loop-k in
    omega (arith, l.invariant, covered_none a.b.now a.places.now a.minute l.k (omega arith))
