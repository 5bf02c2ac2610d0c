-- A month's hours and a score together stay below the top of 64 bits, so that nothing of them is held. Assumes nothing.
use mathlib.Core.Path.{◌≡◌, ◌∙◌}
use mathlib.Core.List.{List, [], ◌∷◌}
use Prim.Native.Nat.{ℕ, ◌+◌, ◌*◌, ◌≤◌}
use native.Mathlib.Omega.{arith}
use lib.ListN.{length}
use Rattle.units.specs.Money.{most_grains, grains_plus}
use Rattle.call.specs.Services.{most_moved}
use Rattle.pay.specs.Inner.{most_pay}
use Rattle.ramp.proofs.Bounds.{most_hour}

-- a month has at most 31 × 24 hours
abbrev pub most_hours : ℕ
most_hours = 744

-- the most that 2,000 calls pay, with as many events' energy
abbrev pub most_score : ℕ
most_score = 2000 * most_pay + 2000 * most_moved * 120000

-- each hour's grains are at most the most an hour pays
abbrev pub EachHourMost : List ℕ → Type 0
EachHourMost [] = Unit {0}
EachHourMost (grains ∷ hours) = (grains ≤ most_hour) × EachHourMost hours

-- hours' grains added up
unfoldable pub hours_total : List ℕ → ℕ
hours_total [] = 0
hours_total (grains ∷ hours) = grains + hours_total hours

-- and added to others one after the other, each sum held at the top
unfoldable pub hours_plus : ℕ → List ℕ → ℕ
hours_plus others [] = others
hours_plus others (grains ∷ hours) = hours_plus (grains_plus others grains) hours

pub hours_most : (hours : List ℕ) → EachHourMost hours → hours_total hours ≤ length hours * most_hour
unfolding hours_total
hours_most [] w = omega arith
hours_most (grains ∷ hours) w = omega (arith, hours_most hours w.1)

-- NEVER AT THE TOP: a score and the grains of all hours of a month
pub hours_below_top : (score : ℕ) (hours : List ℕ) → score ≤ most_score → length hours ≤ most_hours → EachHourMost hours → score + hours_total hours ≤ most_grains
hours_below_top score hours s few w = omega (arith, hours_most hours w)

not_held : (others : ℕ) (hours : List ℕ) → others + hours_total hours ≤ most_grains → hours_plus others hours ≡ others + hours_total hours
unfolding hours_total hours_plus grains_plus
not_held others [] h = omega arith
not_held others (grains ∷ hours) h =
    let e : grains_plus others grains ≡ others + grains = omega arith in
    rw e (not_held (others + grains) hours (omega arith) ∙ omega arith)

-- so that adding them one after the other, held at the top, is adding them
pub hours_plus_lem : (score : ℕ) (hours : List ℕ) → score ≤ most_score → length hours ≤ most_hours → EachHourMost hours → hours_plus score hours ≡ score + hours_total hours
hours_plus_lem score hours s few w = not_held score hours (hours_below_top score hours s few w)
