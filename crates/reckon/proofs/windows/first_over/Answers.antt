use native.Mathlib.Omega.{arith}
use mathlib.Core.Path.{◌≡◌, refl, sym, ◌∙◌}
use mathlib.Core.List.{[]}
use lib.ListN.{drop, drop_of_length-le}
use Rattle.reckon.proofs.Minutes.{left_hit, left_miss}
use Rattle.reckon.proofs.windows.first_over.Goals as goal

pub returns-then-covers : goal.returns-then-covers
returns-then-covers c =
    let a = c.args in
    let k = c.loop-place.place-index in
    let x = c.record_at-x in
    let t = rw x.ensures at (sym c.covers.ensures ∙ c.if-covers.true) in
    rw x.ensures (sym (c.loop-place.invariant ∙ left_hit a.b.now a.places.now a.minute k (omega arith) t))

pub loop-place-preserved : goal.loop-place-preserved
loop-place-preserved c =
    let a = c.args in
    let k = c.loop-place.place-index in
    let t = rw c.record_at-x.ensures at (sym c.covers.ensures ∙ c.if-covers.false) in
    c.loop-place.invariant ∙ left_miss a.b.now a.places.now a.minute k (omega arith) t

pub returns : goal.returns
returns c =
    let a = c.args in
    let k = c.loop-place.place-index in
    let e : drop k a.places.now ≡ [] = drop_of_length-le a.places.now {i = k} (omega arith) in
    sym (c.loop-place.invariant ∙ rw e refl)
