-- Every sum that the paper works through and marks is what the definitions of scoring and joining give. Assumes nothing.
use mathlib.Core.Path.{◌≡◌, refl}
use mathlib.Core.Bool.{true, ◌&&◌}
use mathlib.Core.List.{List, [], ◌∷◌}
use lib.ListN.{length}
use Rattle.le.proofs.Tests.{each}
use Rattle.units.specs.Month.{is_leap, days_of, minutes_of, quarters_of}
use Rattle.units.specs.Money.{grains_to_fen}
use Rattle.call.specs.Limits.{table, limits_of, limits_allow, call_is_sound}
use Rattle.pay.specs.Sum.{total, total_z}
use Rattle.pay.specs.Member.{member_is_sound, is_by_rate}
use Rattle.pay.specs.Window.{lacking, deep_peak_minute, coal_band, coal_minute, reserve_minute, minute_pay, quarter_pay, quarter_at, window_pay}
use Rattle.pay.specs.Rate.{start_stop_rate, black_start_rate, event_band, event_rate, rate_of, rated_pay}
use Rattle.pay.specs.Event.{event_wh, clamp, energy_pay}
use Rattle.pay.specs.Open.{is_zero, reserve_open, event_open, is_before, black_start_open, open_to}
use Rattle.pay.specs.Live.{live_pay, live_wh}
use Rattle.score.specs.First.{first_nonzero, any_below}
use Rattle.score.specs.Refusing.{overlaps, is_once, clashes, clash_at, number_of, refusal_at}
use Rattle.score.specs.Scoring.{is_own_live, pay_of, wh_of, pay_at, wh_at, month_grains, first_refused, records_earned, in_fen}
use Rattle.rule.specs.Standing.{same_call, decide, given, standing}
use Rattle.rule.specs.Keys.{record_of, also, put, put_all, different_keys, records_at}
use Rattle.rule.specs.Joined.{joined_at, joined_for, join_calls}
use Rattle.rule.specs.Whole.{records_of, those, all, highest, withdrawn_at, ruling, rule_for, rule_over, rule_calls}
use Rattle.book.specs.Book.{most_records}
use Rattle.sums.specs.Worked.{Sum, Scoring, Joining, OverBytes, pays, sums}
use Rattle.sums.specs.Worked.{whole_month, same_score, same_calls, row_call_at, join_in_turn, outputs_are_sound, calls_are_sound, row_is_sound, row_score, holds, every}
use Rattle.sums.proofs.Written.{row_over_bytes}

pub all_starred : every sums ≡ true
unfolding
    every holds same_score same_calls row_call_at join_in_turn whole_month outputs_are_sound calls_are_sound most_records row_is_sound row_score
    is_leap days_of minutes_of quarters_of table limits_of limits_allow call_is_sound member_is_sound
    grains_to_fen total total_z is_by_rate lacking deep_peak_minute coal_band coal_minute reserve_minute minute_pay quarter_pay quarter_at window_pay
    start_stop_rate black_start_rate event_band event_rate rate_of rated_pay event_wh clamp energy_pay is_zero reserve_open event_open is_before black_start_open open_to live_pay live_wh
    first_nonzero any_below overlaps is_once clashes clash_at number_of refusal_at is_own_live pay_of wh_of pay_at wh_at month_grains first_refused records_earned in_fen
    same_call decide given standing joined_at joined_for join_calls
    record_of also records_of those all highest withdrawn_at ruling rule_for rule_over put put_all different_keys records_at rule_calls
all_starred = refl

pub sixteen : length sums ≡ 16
sixteen = refl

-- A row's test gives its sum over bytes

rows_written : (xs : List Sum) → every xs ≡ true → OverBytes xs
unfolding every holds
rows_written [] h = tt
rows_written (Scoring m output calls grains fen ∷ xs) h =
    let t = each (row_is_sound m (output ∷ []) calls && same_score (row_score m (output ∷ []) calls) (pays grains fen)) (every xs ∷ []) h in
    let u = each (row_is_sound m (output ∷ []) calls) (same_score (row_score m (output ∷ []) calls) (pays grains fen) ∷ []) t.0 in
    (row_over_bytes m (output ∷ []) calls (pays grains fen) u.0 u.1.0, rows_written xs t.1.0)
rows_written (Joining books calls ∷ xs) h = rows_written xs (each (holds (Joining books calls)) (every xs ∷ []) h).1.0

pub starred_over_bytes : OverBytes sums
starred_over_bytes = rows_written sums all_starred
