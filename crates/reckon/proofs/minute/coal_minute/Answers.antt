use native.Mathlib.Omega.{arith}
use Prim.Native.Nat.{◌*◌, ◌^◌}
use Rattle.pay.proofs.Bounds.{mul_under, lacking_most, band_most}
use Rattle.reckon.proofs.minute.coal_minute.Goals as goal

pub overflow_mul-result : goal.overflow_mul-result
overflow_mul-result c =
    let a = c.args in
    let s = c.lacking-short.ensures in
    let l = lacking_most (10 * a.top.0) a.p.0 in
    record { fits = mul_under 42949672950 350 (2 ^ 64) (omega arith) (omega (arith, c.coal_band-band.ensures, band_most a.rated.0 a.p.0)) tt }
