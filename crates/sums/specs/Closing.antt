-- Black start on both sides of its closing month (request 9), worked out from the request apart from the definitions. Assumes nothing.
use Rattle.std.specs.Prelude.{Bool, true, ◌&&◌, List, [], ◌∷◌, ℕ, pos, length}
use Rattle.call.specs.declared.Call.{Call}
use Rattle.call.specs.Revising.{call_withdrawn, call_contested}
use Rattle.call.specs.Services.{black_start, stability_trip}
use Rattle.pay.specs.declared.Member.{Member}
use Rattle.score.specs.declared.answer.Score.{Score}
use Rattle.score.specs.Scoring.{records_earned, in_fen, score_refused}
use Rattle.sums.specs.Worked.{row_member, row_hydro, row_call, row_black_start, alone, pays, same_score, row_call_at}

-- a month, a member, its calls, and the answer
pub data MonthRow : Type 0 where
  InMonth : (year month : ℕ) → Member → List Call → Score → MonthRow

-- a second one of the month, and a stability trip with a lower call number
abbrev pub second_start : Call
second_start = row_call 2 1 black_start 0 (pos 0) 0

abbrev pub trip_first : Call
trip_first = row_call 0 1 stability_trip 0 (pos 0) 0

abbrev pub closing : List MonthRow
closing =
    -- hydro, 3,000,000 kW: to December 2026 its 1,800,000,000,000 grains, from January 2027 on 12 at the record
    InMonth 2024 1 (row_hydro 3000000) (alone row_black_start) (pays 1800000000000 30000000)
    ∷ InMonth 2026 1 (row_hydro 3000000) (alone row_black_start) (pays 1800000000000 30000000)
    ∷ InMonth 2026 12 (row_hydro 3000000) (alone row_black_start) (pays 1800000000000 30000000)
    ∷ InMonth 2027 1 (row_hydro 3000000) (alone row_black_start) (score_refused 12 0)
    ∷ InMonth 2027 2 (row_hydro 3000000) (alone row_black_start) (score_refused 12 0)
    ∷ InMonth 2028 1 (row_hydro 3000000) (alone row_black_start) (score_refused 12 0)
    -- two live ones: 13 at the second, then 12 at the first
    ∷ InMonth 2026 12 (row_hydro 3000000) (row_black_start ∷ second_start ∷ []) (score_refused 13 1)
    ∷ InMonth 2027 1 (row_hydro 3000000) (row_black_start ∷ second_start ∷ []) (score_refused 12 0)
    -- withdrawn: nothing to score; contested: 14, as ever
    ∷ InMonth 2027 1 (row_hydro 3000000) (alone (call_withdrawn row_black_start)) (pays 0 0)
    ∷ InMonth 2027 1 (row_hydro 3000000) (alone (call_contested row_black_start)) (score_refused 14 0)
    -- a stability trip in front of it, which is paid: 12 at 1; alone it is paid as before
    ∷ InMonth 2027 1 (row_hydro 3000000) (trip_first ∷ row_black_start ∷ []) (score_refused 12 1)
    ∷ InMonth 2027 1 (row_hydro 3000000) (alone trip_first) (pays 7200000000000 120000000)
    -- every other kind
    ∷ InMonth 2027 1 (row_member 1 100000) (alone row_black_start) (score_refused 12 0)
    ∷ InMonth 2027 1 (row_member 2 100000) (alone row_black_start) (score_refused 12 0)
    ∷ InMonth 2027 1 (row_member 4 100000) (alone row_black_start) (score_refused 12 0)
    ∷ InMonth 2027 1 (row_member 5 100000) (alone row_black_start) (score_refused 12 0)
    ∷ InMonth 2027 1 (row_member 6 100000) (alone row_black_start) (score_refused 12 0)
    ∷ InMonth 2027 1 (row_member 7 100000) (alone row_black_start) (score_refused 12 0)
    ∷ InMonth 2027 1 (row_member 8 100000) (alone row_black_start) (score_refused 12 0)
    ∷ []

-- the member's score by the records in turn, as said; none of these calls looks at the series
unfoldable pub month_answers : List MonthRow → Bool
month_answers [] = true
month_answers (InMonth year month m calls r ∷ rows) =
    same_score (in_fen (records_earned (record { year = year; month = month }) m [] (row_call_at calls) (length calls))) r && month_answers rows
