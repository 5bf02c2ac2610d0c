use native.Mathlib.Omega.{arith}
use mathlib.Core.Path.{◌≡◌, refl, sym}
use mathlib.Core.Bool.{Bool, true, false, cond, ◌&&◌, true≢false}
use Prim.Native.Nat.{ℕ, ◌*◌, ◌^◌, min}
use lib.Dec.{eqb, ltb}
use borrow.Author.Tests.{ltb-true, ltb-false}
use Rattle.call.specs.Services.{black_start}
use Rattle.pay.specs.Rate.{most_black_start, rated_pay}
use Rattle.pay.proofs.Bounds.{mul_under, rate_most}
use Rattle.pay.proofs.rate.rated_pay.Goals as goal

-- the ceiling is asked of black start alone
capped : (t : Bool) (whole : ℕ) → (t && ltb most_black_start whole) ≡ true → most_black_start ≡ cond t (min most_black_start whole) whole
capped true whole h = omega (arith, ltb-true most_black_start whole h)
capped false whole h = absurd (true≢false (sym h))

open-ended : (t : Bool) (whole : ℕ) → (t && ltb most_black_start whole) ≡ false → whole ≡ cond t (min most_black_start whole) whole
open-ended true whole h = omega (arith, ltb-false most_black_start whole h)
open-ended false whole h = refl

pub overflow_mul-whole : goal.overflow_mul-whole
overflow_mul-whole c =
    let a = c.args in
    record { fits = mul_under 4000000 12000000 (2 ^ 64) (omega arith) (omega (arith, rate_most a.member.kind a.x (omega arith) c.requires.b_bound)) tt }

pub returns-then-x-whole : goal.returns-then-x-whole
unfolding rated_pay
returns-then-x-whole c =
    let a = c.args in
    let r = c.rate_of-rate in
    rw (← r.ensures) (capped (eqb a.x.service black_start) (a.member.rated.0 * r.result.0) c.if-x-whole.true)

pub returns : goal.returns
unfolding rated_pay
returns c =
    let a = c.args in
    let r = c.rate_of-rate in
    rw (← r.ensures) (open-ended (eqb a.x.service black_start) (a.member.rated.0 * r.result.0) c.if-x-whole.false)
