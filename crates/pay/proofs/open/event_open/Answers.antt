use mathlib.Core.Path.{◌≡◌, refl}
use mathlib.Core.Bool.{Bool, true, false, cond, not, ◌&&◌, ◌||◌}
use lib.Dec.{leb}
use Rattle.pay.specs.Member.{is_by_rate}
use Rattle.pay.specs.Open.{is_zero, event_open}
use Rattle.pay.proofs.Signed.{back32}
use Rattle.pay.proofs.open.event_open.Goals as goal

by_cases : (t u : Bool) → (not t || u) ≡ cond t u true
by_cases true u = refl
by_cases false u = refl

pub returns : goal.returns
unfolding event_open
returns c =
    let e : c.is_zero-none.result ≡ is_zero c.args.a = simp (back32 c.args.a c.ranges.a.sfits) at c.is_zero-none.ensures in
    rw (e, c.is_by_rate-rate.ensures) (by_cases (is_by_rate c.args.kind) (is_zero c.args.a && leb c.args.b 10000))
