use native.Mathlib.Omega.{arith}
use mathlib.Core.Path.{sym, ◌∙◌, ap}
use Prim.Native.Nat.{◌<◌}
use lib.ListN.{length}
use Rattle.book.specs.Book.{most_keys, record_at}
use Rattle.pay.proofs.Sums.{total_z_none, total_z_step}
use Rattle.pay.proofs.Signed.{mag_plus}
use Rattle.score.specs.Scoring.{wh_at}
use Rattle.explain.specs.Explaining.{filled_up}
use Rattle.explain.proofs.Before.{before_none, turn_parts, turn_count, turn_wh, turn_same, turn_still}
use Rattle.explain.proofs.parts.parts_before.Goals as goal
use Rattle.explain.proofs.parts.parts_before.Goals.{in-Some, in_default}

pub loop-i-init : goal.loop-i-init
loop-i-init c =
    let a = c.args in
    let e = before_none a.member a.b.now a.series.now in
    (sym (ap length e), c.blank_parts-parts.ensures ∙ ap filled_up (sym e), sym (total_z_none (wh_at a.member (record_at a.b.now))), omega arith)

pub loop-i-preserved : goal.loop-i-preserved
loop-i-preserved c =
    let few : c.loop-i.i < most_keys = omega arith in
    let a = c.args in
    let l = c.loop-i in
    elim c.match-part_turn.branch [
      | in-Some w ↦
          let p = w.in-Some.part in
          let e = w.in-Some.ensures.turn in
          rw (w.parts-is, w.count-is, w.wh-is) (
            turn_count a.member a.b.now a.series.now l.i p e l.count l.invariant.0,
            turn_parts a.member a.b.now a.series.now l.i p e l.parts l.count l.invariant.1 l.invariant.0 few,
            w.added-wh.ensures ∙ total_z_step _ l.i _ _ l.invariant.2 (turn_wh a.member a.b.now a.series.now l.i p e),
            rw w.added-wh.ensures (omega (arith, mag_plus l.wh.0 p.wh.0, w.in-Some.ensures.span)),
          )
      | in_default w ↦
          let e = w.in_default.ensures.turn in
          rw (w.parts-is, w.count-is, w.wh-is, turn_same a.member a.b.now a.series.now l.i e)
          (l.invariant.0, l.invariant.1, turn_still a.member a.b.now a.series.now l.i e l.wh.0 l.invariant.2, omega arith)
    ]
