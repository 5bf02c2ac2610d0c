-- Dates and lengths, case by case. Assumes nothing.
use mathlib.Core.Bool.{Bool, true, false, cond}
use mathlib.Core.List.{List}
use Prim.Native.Nat.{ℕ, ◌≤◌}
use native.Mathlib.Omega.{arith}
use Rattle.row.specs.Numbers.{not_empty, is_number, value, hold, ceiling}
use Rattle.clock.specs.Clock.{letter_m, has, before, behind, number_in, minutes_in, rest_in}

-- a number that is told is at most 10^12
pub most_number_lem : (text : List ℕ) → number_in text ≤ ceiling
unfolding number_in
most_number_lem text = go (is_number text)
  where
    go : (t : Bool) → cond t (hold (value 0 text)) ceiling ≤ ceiling
    go true = omega arith
    go false = omega arith

pub most_minutes_lem : (text : List ℕ) → minutes_in text ≤ ceiling
unfolding minutes_in
most_minutes_lem text = go (has letter_m text) (not_empty (behind letter_m text))
  where
    go : (t u : Bool) → cond t (cond u ceiling (number_in (before letter_m text))) (number_in text) ≤ ceiling
    go true true = omega arith
    go true false = most_number_lem (before letter_m text)
    go false u = most_number_lem text

pub most_rest : (text : List ℕ) → rest_in text ≤ ceiling
unfolding rest_in
most_rest text = go (not_empty text)
  where
    go : (t : Bool) → cond t (minutes_in text) 0 ≤ ceiling
    go true = most_minutes_lem text
    go false = omega arith
