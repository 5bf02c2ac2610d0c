-- Black start on both sides of its closing month: the definitions of scoring answer as was worked out. Assumes nothing.
use mathlib.Core.Path.{◌≡◌, refl}
use mathlib.Core.Bool.{true}
use Rattle.units.specs.Money.{grains_to_fen}
use Rattle.pay.specs.Sum.{total, total_z}
use Rattle.pay.specs.Rate.{black_start_rate, rate_of, rated_pay}
use Rattle.pay.specs.Event.{clamp, energy_pay}
use Rattle.pay.specs.Open.{is_before, black_start_open, open_to}
use Rattle.pay.specs.Live.{live_pay, live_wh}
use Rattle.score.specs.First.{first_nonzero, any_below}
use Rattle.score.specs.Refusing.{overlaps, is_once, clashes, clash_at, number_of, refusal_at}
use Rattle.score.specs.Scoring.{is_own_live, pay_of, wh_of, pay_at, wh_at, month_grains, first_refused, records_earned, in_fen}
use Rattle.sums.specs.Worked.{row_call_at, same_score}
use Rattle.sums.specs.Closing.{closing, month_answers}

-- Paid to December 2026, 12 from January 2027 on, to every kind; withdrawn and contested as ever.
pub closing_rows : month_answers closing ≡ true
unfolding
    month_answers same_score row_call_at grains_to_fen total total_z black_start_rate rate_of rated_pay clamp energy_pay is_before black_start_open open_to live_pay live_wh
    first_nonzero any_below overlaps is_once clashes clash_at number_of refusal_at is_own_live pay_of wh_of pay_at wh_at month_grains first_refused records_earned in_fen
closing_rows = refl
