-- 004's ceiling on AVC (article 23), 10 points per 万千瓦 or 6,000,000 grains per kW, cannot be met in a month. Assumes nothing.
use mathlib.Core.Path.{◌≡◌, refl, sym, ◌∙◌}
use mathlib.Core.Bool.{true}
use mathlib.Core.List.{List}
use Prim.Native.Nat.{ℕ, ◌*◌, ◌≤◌, ◌<◌}
use native.Mathlib.Nat.{mul-le-mul}
use native.Mathlib.Omega.{arith}
use borrow.Author.Tests.{eqb-false}
use Rattle.units.specs.Month.{minutes_of}
use Rattle.units.proofs.Laws.{minutes_most}
use Rattle.call.specs.declared.Call.{Call}
use Rattle.call.specs.Limits.{call_is_sound}
use Rattle.call.specs.Service.{CallWithin}
use Rattle.call.proofs.Exact.{within_sound}
use Rattle.pay.specs.declared.Member.{Member}
use Rattle.pay.specs.Rate.{avc_rate, rate_of, rated_pay}
use Rattle.pay.specs.Live.{live_pay}
use Rattle.pay.proofs.Bounds.{avc_most, ends_within, b_is_rate}
use Rattle.pay.proofs.Cases.{live_rest}

rated_9 : (m : Member) (x : Call) → x.service ≡ 9 → rated_pay m x ≡ m.rated.0 * avc_rate x.length x.b x.c
unfolding rated_pay rate_of
rated_9 m x e = simp e

-- AVC never reaches its ceiling: every sound live AVC call of any month pays below 6,000,000 grains for each kW.
pub avc_below_ceiling : (year month : ℕ) (m : Member) (series : List ℕ) (x : Call) → CallWithin (minutes_of year month) x → x.service ≡ 9
    → 1 ≤ m.rated.0 → live_pay m series x < 6000000 * m.rated.0
avc_below_ceiling year month m series x w e one =
    let h : call_is_sound (minutes_of year month) x ≡ true = within_sound (minutes_of year month) x (minutes_most year month) w in
    let n : x.length ≤ 44640 = omega (arith, ends_within (minutes_of year month) x h, minutes_most year month) in
    let b : x.b ≤ 10000 = b_is_rate (minutes_of year month) x h (λ d. eqb-false 9 8 refl (sym e ∙ d)) in
    let r : m.rated.0 * avc_rate x.length x.b x.c ≤ m.rated.0 * 4464000 =
    mul-le-mul {n₁ = m.rated.0} {n₂ = m.rated.0} (omega arith) (avc_most x.length x.b x.c n b) in
    let p : live_pay m series x ≡ m.rated.0 * avc_rate x.length x.b x.c =
    live_rest m series x (λ d. eqb-false 9 1 refl (sym e ∙ d)) (λ d. eqb-false 9 2 refl (sym e ∙ d)) ∙ rated_9 m x e in
    omega arith
