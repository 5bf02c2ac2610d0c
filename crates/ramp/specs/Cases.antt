-- Hours worked out from the request's sentences, apart from the definitions, as one table. Assumes nothing.
use Rattle.std.specs.Prelude.{Bool, true, ◌&&◌, List, [], ◌∷◌, ℕ, eqb, replicate}
use Rattle.pay.specs.Kinds.{coal, gas, hydro, wind}
use Rattle.ramp.specs.declared.Action.{Action}
use Rattle.ramp.specs.declared.Hour.{Hour}
use Rattle.ramp.specs.Ramping.{hour_refused, hour_paid, ramping}

-- a unit by kind and rated kW, an hour's actions, and the answer
pub data HourCase : Type 0 where
  Ramps : (kind N : ℕ) → List Action → Hour → HourCase

-- an action by power at the start and the end, commanded power, delay, real and standard rate
abbrev pub act : (start end command delay real standard : ℕ) → Action
act start end command delay real standard =
    record { start = record { 0 = start }; end = record { 0 = end }; command = record { 0 = command }; delay = delay; real = real; standard = standard }

abbrev pub hour_cases : List HourCase
hour_cases =
    -- one action up: 9,000 kW at an index of 0.2 × (4.5 + 0.8 + 7/9)
    Ramps coal 300000 (act 100000 109000 110000 60 4500 3000 ∷ []) (hour_paid 984600000)
    -- with one that stays where it was, one the wrong way, and one down that stops short by 1 kW
    ∷ Ramps coal 300000 (act 100000 109000 110000 60 4500 3000 ∷ act 109000 109000 120000 0 3000 3000 ∷ act 109000 108000 120000 0 3000 3000
    ∷ act 109000 100001 100000 30 2999 3000 ∷ []) (hour_paid 1778103211)
    -- with one that is commanded down and goes up, and with one that is commanded down and stays: as if neither were there
    ∷ Ramps coal 300000 (act 100000 109000 110000 60 4500 3000 ∷ act 109000 110000 100000 0 3000 3000 ∷ []) (hour_paid 984600000)
    ∷ Ramps coal 300000 (act 100000 109000 110000 60 4500 3000 ∷ act 109000 109000 100000 0 3000 3000 ∷ []) (hour_paid 984600000)
    -- nothing comes out even
    ∷ Ramps coal 300001 (act 100000 109000 110000 61 4499 3001 ∷ act 109000 100001 100000 29 2999 3001 ∷ act 100001 99000 120000 0 3001 3001 ∷ []) (hour_paid 1777536605)
    ∷ Ramps gas 7 (act 0 1 1 0 1 7 ∷ []) (hour_paid 43714)
    -- one index below zero counts in a mean above zero; a mean below zero pays 0
    ∷ Ramps hydro 200000 (act 0 1000 10000 300 0 1000 ∷ act 0 10000 10000 0 1000 1000 ∷ []) (hour_paid 297000000)
    ∷ Ramps hydro 200000 (act 0 1000 10000 300 0 1000 ∷ []) (hour_paid 0)
    -- no actions, and none the right way
    ∷ Ramps coal 300000 [] (hour_paid 0)
    ∷ Ramps coal 300000 (act 109000 108000 120000 0 3000 3000 ∷ []) (hour_paid 0)
    ∷ Ramps coal 300000 (act 109000 110000 100000 0 3000 3000 ∷ []) (hour_paid 0)
    -- the most that an hour can pay
    ∷ Ramps coal 300000 (replicate 60 (act 0 5000000 5000000 0 1000000 10000)) (hour_paid 1630800000000000)
    -- at the limits
    ∷ Ramps coal 300000 (act 5000000 4999999 4999999 300 1000000 1000000 ∷ []) (hour_paid 72000)
    -- the register line first, then the kind, even where an action is bad
    ∷ Ramps wind 0 (act 0 0 0 0 0 0 ∷ []) (hour_refused 10 0)
    ∷ Ramps wind 300000 (act 0 0 0 0 0 0 ∷ []) (hour_refused 12 0)
    -- a 61st action; another standard rate; none; a command that is the start; each limit by one
    ∷ Ramps coal 300000 (replicate 61 (act 0 1000 1000 0 3000 3000)) (hour_refused 10 60)
    ∷ Ramps coal 300000 (act 0 1000 1000 0 3000 3000 ∷ act 0 1000 1000 0 3000 3001 ∷ []) (hour_refused 10 1)
    ∷ Ramps coal 300000 (act 0 1000 1000 0 0 0 ∷ []) (hour_refused 10 0)
    ∷ Ramps coal 300000 (act 0 1000 1000 0 3000 3000 ∷ act 1000 2000 1000 0 3000 3000 ∷ []) (hour_refused 10 1)
    ∷ Ramps coal 300000 (act 5000001 1000 1000 0 3000 3000 ∷ []) (hour_refused 10 0)
    ∷ Ramps coal 300000 (act 0 5000001 1000 0 3000 3000 ∷ []) (hour_refused 10 0)
    ∷ Ramps coal 300000 (act 0 1000 5000001 0 3000 3000 ∷ []) (hour_refused 10 0)
    ∷ Ramps coal 300000 (act 0 1000 1000 301 3000 3000 ∷ []) (hour_refused 10 0)
    ∷ Ramps coal 300000 (act 0 1000 1000 0 1000001 30000 ∷ []) (hour_refused 10 0)
    ∷ Ramps coal 300000 (act 0 1000 1000 0 3000 1000001 ∷ []) (hour_refused 10 0)
    ∷ Ramps coal 300000 (act 0 1000 1000 0 300001 3000 ∷ []) (hour_refused 10 0)
    ∷ []

unfoldable pub same_hour : Hour → Hour → Bool
same_hour r s = eqb r.number s.number && eqb r.place s.place && eqb r.grains.0 s.grains.0

-- a row's unit is member 7
unfoldable pub case_holds : HourCase → Bool
case_holds (Ramps kind N actions answer) = same_hour (ramping (record { number = 7; kind = kind; rated = record { 0 = N } }) actions) answer

unfoldable pub every_case : List HourCase → Bool
every_case [] = true
every_case (x ∷ xs) = case_holds x && every_case xs
