-- The request's cases, worked out both ways, and over the bytes of a whole month. Assumes nothing.
use mathlib.Core.Path.{◌≡◌, refl, sym, ◌∙◌, ap}
use mathlib.Core.Bool.{Bool, true, ◌&&◌}
use mathlib.Core.List.{List, [], ◌∷◌}
use Prim.Native.Nat.{ℕ, zero, suc, ◌≤◌, ◌<◌}
use native.Mathlib.Omega.{arith}
use lib.Dec.{lit<, lit≤, leb}
use lib.ListN.{length, get_or, replicate, length-append, length-replicate}
use borrow.Author.Tests.{leb-true}
use Rattle.le.proofs.Tests.{each}
use Rattle.units.specs.Month.{is_leap, days_of, minutes_of, quarters_of}
use Rattle.call.specs.declared.Call.{Call}
use Rattle.call.specs.Limits.{table, limits_of, limits_allow, call_is_sound}
use Rattle.call.specs.Services.{deep_peak, reserve}
use Rattle.call.specs.Service.{CallWithin}
use Rattle.call.proofs.Exact.{sound_within}
use Rattle.book.specs.declared.Header.{Header}
use Rattle.book.specs.Book.{first_version, header_at, calls_of}
use Rattle.book.specs.Check.{header_minutes}
use Rattle.book.specs.Sound.{Heading, Sound}
use Rattle.book.proofs.Heads.{first_known, first_some}
use Rattle.book.proofs.Exact.{sound_accepted, reads_back}
use Rattle.pay.specs.declared.Member.{Member}
use Rattle.pay.specs.Sum.{total, total_z}
use Rattle.pay.specs.Member.{member_is_sound}
use Rattle.pay.specs.Window.{lacking, deep_peak_minute, coal_band, coal_minute, reserve_minute, minute_pay, quarter_pay, quarter_at, window_pay}
use Rattle.pay.specs.Event.{clamp, energy_pay}
use Rattle.pay.specs.Open.{reserve_open, open_to}
use Rattle.pay.specs.Live.{live_pay, live_wh}
use Rattle.pay.proofs.Within.{line_of}
use Rattle.score.specs.First.{first_nonzero, any_below}
use Rattle.score.specs.Series.{most_output}
use Rattle.score.specs.Refusing.{number_of, refusal_at}
use Rattle.score.specs.Scoring.{is_own_live, pay_of, wh_of, pay_at, wh_at, month_grains, first_refused, records_earned, month_at, in_fen, scoring}
use Rattle.score.specs.Outcomes.{Ready}
use Rattle.score.proofs.Listed.{over_calls}
use Rattle.reckon.specs.Reckoning.{covers, window_minute, minute_at, reckoning}
use Rattle.reckon.specs.Cases.{february, coal_of, two_hours, book_of, series_of, paid, rising, odd, over_midnight, even}
use Rattle.reckon.proofs.BothWays.{both_ways}

-- The month of one call

heads : Heading february
unfolding february
heads = record { area = (lit≤ tt, lit≤ tt); year = (lit≤ tt, lit≤ tt); month = (lit≤ tt, lit≤ tt) }

-- outputs within the limit, tested one after the other
unfoldable small : List ℕ → Bool
small [] = true
small (p ∷ ps) = leb p most_output && small ps

low_none : (n i : ℕ) → get_or (replicate n 0) i 0 ≤ most_output
low_none zero i = omega arith
low_none (suc n) zero = omega arith
low_none (suc n) (suc i) = low_none n i

low_of : (outputs : List ℕ) → small outputs ≡ true → (i : ℕ) → get_or (series_of outputs) i 0 ≤ most_output
unfolding small series_of
low_of [] h i = low_none 2680 i
low_of (p ∷ ps) h zero = leb-true p most_output (each (leb p most_output) (small ps ∷ []) h).0
low_of (p ∷ ps) h (suc i) = low_of ps (each (leb p most_output) (small ps ∷ []) h).1.0 i

module _ (x : Call) (within : CallWithin (header_minutes february) x) where
  is_sound_lem : Sound (book_of x)
  unfolding book_of
  is_sound_lem =
      record {
        version = first_version;
        header = february;
        calls = x ∷ [];
        known = first_known;
        heading = heads;
        few = first_some;
        within = (within, tt);
        rising = (omega arith, tt);
        bytes = refl;
      }

  pub reads : (header_at (book_of x) ≡ february) × (calls_of (book_of x) ≡ x ∷ [])
  unfolding book_of
  reads = reads_back first_version february (x ∷ []) first_known heads first_some (within, tt)

-- of 2,688 quarter hours, each within the limit
record Outputs (series : List ℕ) : Type 0 where
  many : length series ≡ 2688
  low : (i : ℕ) → get_or series i 0 ≤ most_output

of_eight : (outputs : List ℕ) → length outputs ≡ 8 → small outputs ≡ true → Outputs (series_of outputs)
unfolding series_of
of_eight outputs eight h = record { many = length-append {A = ℕ} outputs (replicate 2680 0) ∙ omega (arith, length-replicate {A = ℕ} 2680 0, eight); low = low_of outputs h }

module _ (m : Member) (line : member_is_sound m ≡ true) (x : Call) (within : CallWithin (header_minutes february) x) (series : List ℕ) (outputs : Outputs series) where
  ready : Ready m (book_of x) series
  unfolding february quarters_of days_of is_leap
  ready =
      record {
        front = record { line = line_of m line; book = sound_accepted (book_of x) (is_sound_lem x within) };
        spans = outputs.many ∙ sym (ap (λ (h : Header). quarters_of h.year h.month) (reads x within).0);
        within = λ j l. outputs.low j;
      }

  -- the first way's answer, over the call
  one_call : scoring m (book_of x) series ≡ in_fen (records_earned (month_at (book_of x)) m series (λ (i : ℕ). get_or (x ∷ []) i x) 1)
  one_call =
      over_calls m (book_of x) series x ready
      ∙ ap (λ (xs : List Call). in_fen (records_earned (month_at (book_of x)) m series (λ (i : ℕ). get_or xs i x) (length xs))) (reads x within).1

is_within : (x : Call) → x.number < 4294967296 → x.revision < 4294967296 → call_is_sound (header_minutes february) x ≡ true → CallWithin (header_minutes february) x
is_within x = sound_within (header_minutes february) x

-- Reserve, the output rising: 13,650,000,000 grains

pub reserve_within : CallWithin (header_minutes february) (two_hours reserve 290000)
unfolding two_hours february header_minutes minutes_of days_of is_leap call_is_sound limits_allow limits_of table
reserve_within = is_within _ (lit< tt) (lit< tt) refl

-- by the window's quarter hours
rising_window : window_pay (coal_of 300000) reserve 290000 (series_of rising) 0 120 ≡ 13650000000
unfolding coal_of series_of rising window_pay quarter_at quarter_pay minute_pay reserve_minute coal_minute coal_band lacking total
rising_window = refl

-- by its minutes
pub rising_walked : total (minute_at (coal_of 300000) (series_of rising) (two_hours reserve 290000 ∷ [])) 0 120 ≡ 13650000000
unfolding coal_of two_hours series_of rising minute_at covers window_minute minute_pay reserve_minute coal_minute coal_band lacking clamp total
rising_walked = refl

-- the whole month
rising_scored : scoring (coal_of 300000) (book_of (two_hours reserve 290000)) (series_of rising) ≡ paid 13650000000
unfolding
    small coal_of member_is_sound two_hours series_of rising paid in_fen records_earned first_refused first_nonzero refusal_at number_of any_below open_to reserve_open
    month_grains pay_at pay_of wh_at wh_of is_own_live live_pay live_wh window_pay quarter_at quarter_pay minute_pay reserve_minute coal_minute coal_band lacking clamp energy_pay total total_z
rising_scored = one_call (coal_of 300000) refl (two_hours reserve 290000) reserve_within (series_of rising) (of_eight rising refl refl) ∙ refl

pub rising_reckoned : reckoning (coal_of 300000) (book_of (two_hours reserve 290000)) (series_of rising) ≡ paid 13650000000
rising_reckoned = both_ways (coal_of 300000) (book_of (two_hours reserve 290000)) (series_of rising) ∙ rising_scored

-- Deep peaking at an odd rating: 67,496,625,000 grains

deep_within : CallWithin (header_minutes february) (two_hours deep_peak 0)
unfolding two_hours february header_minutes minutes_of days_of is_leap call_is_sound limits_allow limits_of table
deep_within = is_within _ (lit< tt) (lit< tt) refl

odd_window : window_pay (coal_of 300001) deep_peak 0 (series_of odd) 0 120 ≡ 67496625000
unfolding coal_of series_of odd window_pay quarter_at quarter_pay minute_pay deep_peak_minute lacking total
odd_window = refl

pub odd_walked : total (minute_at (coal_of 300001) (series_of odd) (two_hours deep_peak 0 ∷ [])) 0 120 ≡ 67496625000
unfolding coal_of two_hours series_of odd minute_at covers window_minute minute_pay deep_peak_minute lacking clamp total
odd_walked = refl

odd_scored : scoring (coal_of 300001) (book_of (two_hours deep_peak 0)) (series_of odd) ≡ paid 67496625000
unfolding
    small coal_of member_is_sound two_hours series_of odd paid in_fen records_earned first_refused first_nonzero refusal_at number_of any_below open_to
    month_grains pay_at pay_of wh_at wh_of is_own_live live_pay live_wh window_pay quarter_at quarter_pay minute_pay deep_peak_minute lacking clamp energy_pay total total_z
odd_scored = one_call (coal_of 300001) refl (two_hours deep_peak 0) deep_within (series_of odd) (of_eight odd refl refl) ∙ refl

pub odd_reckoned : reckoning (coal_of 300001) (book_of (two_hours deep_peak 0)) (series_of odd) ≡ paid 67496625000
odd_reckoned = both_ways (coal_of 300001) (book_of (two_hours deep_peak 0)) (series_of odd) ∙ odd_scored

-- Over midnight at one output: 36,000,000,000 grains

pub night_within : CallWithin (header_minutes february) over_midnight
unfolding over_midnight february header_minutes minutes_of days_of is_leap call_is_sound limits_allow limits_of table
night_within = is_within _ (lit< tt) (lit< tt) refl

-- one value so many times
of_one : (p n i : ℕ) → i < n → get_or (replicate n p) i 0 ≡ p
of_one p zero i l = absurd (omega arith)
of_one p (suc n) zero l = refl
of_one p (suc n) (suc i) l = of_one p n i (omega arith)

low_one : (p n i : ℕ) → p ≤ most_output → get_or (replicate n p) i 0 ≤ most_output
low_one p zero i l = omega arith
low_one p (suc n) zero l = l
low_one p (suc n) (suc i) l = low_one p n i l

pub even_at : (i : ℕ) → i < 2688 → ◌≡◌ {A = ℕ} (get_or even i 0) 140000
unfolding even
even_at i l = of_one 140000 2688 i l

even_outputs : Outputs even
unfolding even
even_outputs = record { many = length-replicate {A = ℕ} 2688 140000; low = λ i. low_one 140000 2688 i (lit≤ tt) }

night_scored : scoring (coal_of 300000) (book_of over_midnight) even ≡ paid 36000000000
unfolding
    coal_of member_is_sound over_midnight even paid in_fen records_earned first_refused first_nonzero refusal_at number_of any_below open_to
    month_grains pay_at pay_of wh_at wh_of is_own_live live_pay live_wh window_pay quarter_at quarter_pay minute_pay deep_peak_minute lacking clamp energy_pay total total_z
night_scored = one_call (coal_of 300000) refl over_midnight night_within even even_outputs ∙ refl

pub night_reckoned : reckoning (coal_of 300000) (book_of over_midnight) even ≡ paid 36000000000
night_reckoned = both_ways (coal_of 300000) (book_of over_midnight) even ∙ night_scored
