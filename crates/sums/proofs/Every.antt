-- A call of every service to a plant of every kind, and both sides of each limit: the definitions of scoring answer as was worked out. Assumes nothing.
use mathlib.Core.Path.{◌≡◌, refl}
use mathlib.Core.Bool.{true, ◌&&◌}
use mathlib.Core.List.{List, [], ◌∷◌}
use lib.ListN.{length}
use Rattle.le.proofs.Tests.{each}
use Rattle.units.specs.Month.{is_leap, days_of, minutes_of, quarters_of}
use Rattle.units.specs.Money.{grains_to_fen}
use Rattle.call.specs.Limits.{table, limits_of, limits_allow, call_is_sound}
use Rattle.pay.specs.Sum.{total, total_z}
use Rattle.pay.specs.Member.{member_is_sound, is_by_rate, has_availability}
use Rattle.pay.specs.Window.{lacking, deep_peak_minute, coal_band, coal_minute, gas_hydro_minute, reserve_minute, minute_pay, quarter_pay, quarter_at, window_pay}
use Rattle.pay.specs.Rate.{percents_above, start_stop_rate, standby_rate, black_start_rate, availability_rate, contribution_rate, event_band, event_rate, avc_rate, rate_of, rated_pay}
use Rattle.pay.specs.Event.{event_wh, clamp, energy_pay}
use Rattle.pay.specs.Open.{is_zero, reserve_open, event_open, is_before, black_start_open, open_to}
use Rattle.pay.specs.Live.{live_pay, live_wh}
use Rattle.score.specs.First.{first_nonzero, any_below}
use Rattle.score.specs.Refusing.{overlaps, is_once, clashes, clash_at, number_of, refusal_at}
use Rattle.score.specs.Scoring.{is_own_live, pay_of, wh_of, pay_at, wh_at, month_grains, first_refused, records_earned, in_fen}
use Rattle.book.specs.Book.{most_records}
use Rattle.sums.specs.Worked.{whole_month, row_call_at, same_score, outputs_are_sound, calls_are_sound, row_is_sound, row_score}
use Rattle.sums.specs.Every.{Row, Scores, outputs, row_calls, every_service_and_kind, both_sides, answers, all_answer, in_order, AnswersOverBytes}
use Rattle.sums.proofs.Written.{row_over_bytes}

pub every_service_and_kind_lem : all_answer every_service_and_kind ≡ true
unfolding
    all_answer answers same_score whole_month row_call_at outputs_are_sound calls_are_sound most_records row_is_sound row_score
    is_leap days_of minutes_of quarters_of grains_to_fen table limits_of limits_allow call_is_sound total total_z member_is_sound is_by_rate has_availability
    lacking deep_peak_minute coal_band coal_minute gas_hydro_minute reserve_minute minute_pay quarter_pay quarter_at window_pay
    percents_above start_stop_rate standby_rate black_start_rate availability_rate contribution_rate event_band event_rate avc_rate rate_of rated_pay
    event_wh clamp energy_pay is_zero reserve_open event_open is_before black_start_open open_to live_pay live_wh first_nonzero any_below overlaps is_once clashes clash_at number_of refusal_at
    is_own_live pay_of wh_of pay_at wh_at month_grains first_refused records_earned in_fen
every_service_and_kind_lem = refl

-- eighty rows, in the order of services and kinds: each of the ten services with each of the eight kinds, once
pub eighty : length every_service_and_kind ≡ 80
eighty = refl

pub each_once : in_order 0 every_service_and_kind ≡ true
unfolding in_order
each_once = refl

pub both_sides_lem : all_answer both_sides ≡ true
unfolding
    all_answer answers same_score whole_month row_call_at outputs_are_sound calls_are_sound most_records row_is_sound row_score
    is_leap days_of minutes_of quarters_of grains_to_fen table limits_of limits_allow call_is_sound total total_z member_is_sound is_by_rate has_availability
    lacking deep_peak_minute coal_band coal_minute gas_hydro_minute reserve_minute minute_pay quarter_pay quarter_at window_pay
    percents_above start_stop_rate standby_rate black_start_rate availability_rate contribution_rate event_band event_rate avc_rate rate_of rated_pay
    event_wh clamp energy_pay is_zero reserve_open event_open is_before black_start_open open_to live_pay live_wh first_nonzero any_below overlaps is_once clashes clash_at number_of refusal_at
    is_own_live pay_of wh_of pay_at wh_at month_grains first_refused records_earned in_fen
both_sides_lem = refl

-- A row's test gives its answer over bytes

rows_written : (rows : List Row) → all_answer rows ≡ true → AnswersOverBytes rows
unfolding all_answer answers
rows_written [] h = tt
rows_written (Scores m service minutes a b c r ∷ rows) h =
    let calls = row_calls service minutes a b c in
    let t = each (row_is_sound m outputs calls && same_score (row_score m outputs calls) r) (all_answer rows ∷ []) h in
    let u = each (row_is_sound m outputs calls) (same_score (row_score m outputs calls) r ∷ []) t.0 in
    (row_over_bytes m outputs calls r u.0 u.1.0, rows_written rows t.1.0)

pub every_over_bytes : AnswersOverBytes every_service_and_kind
every_over_bytes = rows_written every_service_and_kind every_service_and_kind_lem

pub both_sides_over_bytes : AnswersOverBytes both_sides
both_sides_over_bytes = rows_written both_sides both_sides_lem
