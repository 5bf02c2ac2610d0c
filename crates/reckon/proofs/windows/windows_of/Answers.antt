use native.Mathlib.Omega.{arith}
use mathlib.Core.Path.{◌≡◌, refl, sym, ◌∙◌, ap}
use Prim.Native.Nat.{◌+◌, ◌<◌}
use lib.ListN.{length, set, length-set, length-take}
use Rattle.book.specs.Book.{record_at}
use Rattle.reckon.specs.Reckoning.{is_window}
use Rattle.reckon.proofs.Places.{places_none, places_few, next_yes, next_no}
use Rattle.reckon.proofs.windows.windows_of.Goals as goal
use Rattle.reckon.proofs.windows.windows_of.Goals.{then-is_window, else-is_window}

pub loop-i-init : goal.loop-i-init
loop-i-init c =
    let a = c.args in
    let e = places_none a.member a.service a.b.now in
    (sym e, sym (ap length e), refl)

pub bounds-at-count : goal.bounds-at-count
bounds-at-count c =
    let a = c.args in
    omega (arith, places_few a.member a.service a.b.now c.loop-i.i)

pub loop-i-preserved : goal.loop-i-preserved
loop-i-preserved c =
    let a = c.args in
    let l = c.loop-i in
    let e : c.is_window.result ≡ is_window a.member a.service (record_at a.b.now l.i) = c.is_window.ensures ∙ ap (is_window a.member a.service) c.record_at.ensures in
    let h : l.count < length l.at = omega (arith, places_few a.member a.service a.b.now l.i) in
    elim c.if-is_window.branch [
      | then-is_window w ↦
          let p = next_yes a.member a.service a.b.now l.at l.count l.i l.invariant.0 h (sym e ∙ w.if-is_window.true) in
          rw (w.at-is, w.count-is) (p, omega (arith, length-take (l.count + 1) (set l.at l.count l.i), length-set l.at l.count l.i, ap length p), length-set l.at l.count l.i ∙ l.invariant.2)
      | else-is_window w ↦ rw (w.at-is, w.count-is, next_no a.member a.service a.b.now l.i (sym e ∙ w.if-is_window.false)) l.invariant
    ]
