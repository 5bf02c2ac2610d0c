use native.Mathlib.Omega.{arith}
use mathlib.Core.Path.{sym, ◌∙◌}
use Rattle.book.specs.Book.{record_at}
use Rattle.pay.proofs.Sums.{total_none, total0_step, total_z_none, total_z_step}
use Rattle.pay.proofs.Signed.{mag_plus}
use Rattle.score.specs.Scoring.{wh_at}
use Rattle.reckon.specs.Reckoning.{other_at}
use Rattle.reckon.proofs.others.others_earned.Goals as goal

pub loop-i-init : goal.loop-i-init
loop-i-init c =
    let a = c.args in
    (sym (total_none (other_at a.member (record_at a.b.now)) 0), omega arith, sym (total_z_none (wh_at a.member (record_at a.b.now))), omega arith)

pub loop-i-preserved : goal.loop-i-preserved
unfolding other_at wh_at
loop-i-preserved c =
    let l = c.loop-i in
    let t = c.other_at-other.ensures in (
      total0_step _ l.i l.invariant.0 t.pays,
      omega arith,
      c.added-wh.ensures ∙ total_z_step _ l.i _ _ l.invariant.2 t.energy,
      rw c.added-wh.ensures (omega (arith, mag_plus l.wh.0 c.other_at-other.result.wh.0)),
    )
