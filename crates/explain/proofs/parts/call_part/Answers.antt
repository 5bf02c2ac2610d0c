use mathlib.Core.Path.{◌≡◌, refl}
use Prim.Native.Nat.{ℕ}
use lib.IntN.{ℤ}
use Rattle.explain.specs.declared.CallPart.{CallPart}
use Rattle.explain.specs.Explaining.{call_part}
use Rattle.explain.proofs.parts.call_part.Goals as goal

abbrev part : ℕ → ℕ → ℤ → ℕ → ℕ → CallPart
part i rate wh grains quarters = record { place = i; rate = rate; wh = record { 0 = wh }; grains = record { 0 = grains }; quarters = quarters }

-- the same fields, the same part
same : (i : ℕ) {r r' g g' q q' : ℕ} {w w' : ℤ} → r ≡ r' → w ≡ w' → g ≡ g' → q ≡ q' → part i r w g q ≡ part i r' w' g' q'
same i a b c d = rw (a, b, c, d) refl

pub returns : goal.returns
unfolding call_part
returns c =
    let w = c.live_wh-wh.ensures in
    (same _ c.live_rate-rate.ensures w.0 c.live_pay-grains.ensures.0 c.quarters_paid-quarters.ensures, w.1)
