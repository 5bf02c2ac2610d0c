use native.Mathlib.Omega.{arith}
use mathlib.Core.Bool.{Bool}
use mathlib.Core.List.{[], ◌∷◌}
use mathlib.Core.Path.{sym}
use lib.Dec.{ltb}
use Prim.Native.Nat.{◌*◌, ◌^◌}
use Rattle.le.proofs.Tests.{Hold, each}
use Rattle.pay.proofs.Runs.{coal_some, coal_none}
use Rattle.pay.proofs.Bounds.{mul_under, band_most}
use Rattle.pay.proofs.window.coal_minute.Goals as goal

pub overflow_mul-result : goal.overflow_mul-result
overflow_mul-result c =
    let half-passed : Bool = ltb (5 * c.args.rated.0) (10 * c.args.p.0) in
    let top-ahead : Bool = ltb (10 * c.args.p.0) (10 * c.args.top.0) in
    let within : Hold (half-passed ∷ top-ahead ∷ []) = each half-passed (top-ahead ∷ []) c.if-half-at.true in
    let a = c.args in
    let w = within in
    record { fits = mul_under 42949672950 350 (2 ^ 64) (omega arith) (omega (arith, band_most a.rated.0 a.p.0)) tt }

pub returns-then-half-at : goal.returns-then-half-at
returns-then-half-at c =
    let half-passed : Bool = ltb (5 * c.args.rated.0) (10 * c.args.p.0) in
    let top-ahead : Bool = ltb (10 * c.args.p.0) (10 * c.args.top.0) in
    let within : Hold (half-passed ∷ top-ahead ∷ []) = each half-passed (top-ahead ∷ []) c.if-half-at.true in
    let a = c.args in
    let w = within in
    rw c.coal_band-band.ensures (sym (coal_some a.rated.0 a.top.0 a.p.0 w.0 w.1.0))

pub returns : goal.returns
returns c = let a = c.args in sym (coal_none a.rated.0 a.top.0 a.p.0 c.if-half-at.false)
