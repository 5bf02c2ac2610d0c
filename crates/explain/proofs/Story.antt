-- A month explained: half a window that paid, a stop, an event paid by energy, two ramping hours of 400 and 600 grains; others' and withdrawn calls are not told. Assumes nothing.
use mathlib.Core.Path.{◌≡◌, refl, sym, ◌∙◌, ap}
use mathlib.Core.Bool.{true}
use mathlib.Core.List.{List, [], ◌∷◌, ◌++◌}
use Prim.Native.Nat.{ℕ, zero, suc, ◌≤◌, ◌<◌}
use native.Mathlib.Omega.{arith}
use lib.Dec.{lit<, lit≤}
use lib.IntN.{pos}
use lib.ListN.{length, get_or, replicate, length-append, length-replicate}
use Rattle.units.specs.Money.{grains_plus}
use Rattle.units.specs.Month.{is_leap, days_of, minutes_of, quarters_of}
use Rattle.call.specs.declared.Call.{Call}
use Rattle.call.specs.Limits.{table, limits_of, limits_allow, call_is_sound}
use Rattle.call.specs.Revising.{live, withdrawn}
use Rattle.call.specs.Services.{deep_peak, start_stop, frequency_event}
use Rattle.call.specs.Service.{CallWithin}
use Rattle.call.proofs.Exact.{sound_within}
use Rattle.book.specs.declared.Header.{Header}
use Rattle.book.specs.declared.Verdict.{Verdict}
use Rattle.book.specs.Book.{first_version, header_at, count_at, record_at, calls_of, mark_bytes, date_bytes, count_bytes, head_bytes, record_bytes, book_bytes}
use Rattle.book.specs.Check.{header_minutes}
use Rattle.book.specs.Sound.{Heading, CallsWithin, Sound}
use Rattle.book.proofs.Heads.{first_known, first_fits}
use Rattle.book.proofs.Exact.{sound_accepted, reads_back}
use Rattle.book.proofs.Records.{length_calls}
use Rattle.le.specs.Le.{le_at, le_bytes}
use Rattle.call.specs.Layout.{call_at, key_bytes, time_bytes, term_bytes, call_bytes}
use Rattle.pay.specs.declared.Member.{Member}
use Rattle.pay.specs.Sum.{total}
use Rattle.pay.specs.Kinds.{coal}
use Rattle.pay.specs.Member.{member_is_sound, is_by_rate}
use Rattle.pay.specs.Window.{lacking, deep_peak_minute, minute_pay, quarter_pay, quarter_at, window_pay, quarter_counts, window_quarters}
use Rattle.pay.specs.Rate.{start_stop_rate, event_rate, rate_of, rated_pay}
use Rattle.pay.specs.Event.{event_wh, clamp, energy_pay}
use Rattle.pay.specs.Open.{event_open, open_to}
use Rattle.pay.specs.Live.{live_pay, quarters_paid, live_wh}
use Rattle.score.specs.declared.answer.Earned.TheVariants.{Accepted}
use Rattle.score.specs.First.{any_below}
use Rattle.score.specs.Series.{most_output, too_much, first_too_much}
use Rattle.score.specs.Refusing.{overlaps, is_once, clashes, clash_at, number_of, refusal_at}
use Rattle.score.specs.Scoring.{is_own_live, month_grains, month_at, grains_earned}
use Rattle.score.proofs.First.{first_of_all}
use Rattle.score.proofs.Turns.{fault_in, much_not, series_good, records_sum, sound_records, earned_sound}
use Rattle.explain.proofs.Before.{parts_are}
use Rattle.explain.proofs.Adding.{before_grains, before_wh}
use Rattle.explain.specs.declared.CallPart.{CallPart}
use Rattle.explain.specs.Explaining.{call_part, own_part, parts_from, parts_of, filled_up, month_wh, hours_sum, explain_earned, explaining, parts_grains, parts_wh}

-- area 5, February 2026
february : Header
february = record { area = 5; year = 2026; month = 2 }

heads : Heading february
unfolding february
heads = record { area = (lit≤ tt, lit≤ tt); year = (lit≤ tt, lit≤ tt); month = (lit≤ tt, lit≤ tt) }

call : ℕ → ℕ → ℕ → ℕ → ℕ → ℕ → ℕ → ℕ → Call
call participant service state number start length a b =
    record { participant = participant; service = service; state = state; number = number; revision = 1; start = start; length = length; a = pos a; b = b; c = 0 }

-- a stop of member 3; of member 7 an hour of deep peaking, a stop, a withdrawn call, and an event that moved 50,000 Wh, of which 40,000 count
calls : List Call
calls =
    call 3 start_stop live 5 600 60 0 0
    ∷ call 7 deep_peak live 1000 600 60 0 0
    ∷ call 7 start_stop live 1001 600 4320 0 0
    ∷ call 7 0 withdrawn 1002 0 0 0 0
    ∷ call 7 frequency_event live 1003 700 10 50000 40000
    ∷ []

abbrev sound : Call → Type 0
sound x = call_is_sound (header_minutes february) x ≡ true

is_within : (x : Call) → x.number < 4294967296 → x.revision < 4294967296 → sound x → CallWithin (header_minutes february) x
is_within x = sound_within (header_minutes february) x

within : CallsWithin (header_minutes february) calls
unfolding calls call february header_minutes minutes_of days_of is_leap call_is_sound limits_allow limits_of table
within = (
  is_within _ (lit< tt) (lit< tt) refl,
  (
    is_within _ (lit< tt) (lit< tt) refl,
    (
      is_within _ (lit< tt) (lit< tt) refl,
      (is_within _ (lit< tt) (lit< tt) refl, (is_within _ (lit< tt) (lit< tt) refl, tt)),
    ),
  ),
)

pub book : List ℕ
book = book_bytes first_version february calls

is_sound_lem : Sound book
unfolding book calls call
is_sound_lem =
    record {
      version = first_version;
      header = february;
      calls = calls;
      known = first_known;
      heading = heads;
      few = first_fits _ (lit≤ tt);
      within = within;
      rising = (lit≤ tt, (lit≤ tt, (lit≤ tt, (lit≤ tt, (lit≤ tt, tt)))));
      bytes = refl;
    }

reads : (header_at book ≡ february) × (calls_of book ≡ calls)
unfolding book calls
reads = reads_back first_version february calls first_known heads (first_fits _ (lit≤ tt)) within

five : count_at book ≡ 5
unfolding calls_of calls
five = sym (length_calls book (count_at book) 0) ∙ ap length reads.1

-- member 7, coal of 300,000 kW, at 100,000 kW until minute 630 and at 200,000 from then on
pub seven : Member
seven = record { number = 7; kind = coal; rated = record { 0 = 300000 } }

pub series : List ℕ
series = replicate 42 100000 ++ replicate 2646 200000

low_append : (xs ys : List ℕ) (k : ℕ) → ((i : ℕ) → get_or xs i 0 ≤ k) → ((i : ℕ) → get_or ys i 0 ≤ k) → (i : ℕ) → get_or (xs ++ ys) i 0 ≤ k
low_append [] ys k p q i = q i
low_append (x ∷ xs) ys k p q zero = p zero
low_append (x ∷ xs) ys k p q (suc i) = low_append xs ys k (λ j. p (suc j)) q i

low_replicate : (n a k : ℕ) → a ≤ k → (i : ℕ) → get_or (replicate n a) i 0 ≤ k
low_replicate zero a k h i = omega arith
low_replicate (suc n) a k h zero = h
low_replicate (suc n) a k h (suc i) = low_replicate n a k h i

long : length series ≡ 2688
unfolding series
long = length-append {A = ℕ} (replicate 42 100000) (replicate 2646 200000) ∙ omega (arith, length-replicate {A = ℕ} 42 100000, length-replicate {A = ℕ} 2646 200000)

spans : length series ≡ quarters_of (header_at book).year (header_at book).month
unfolding february quarters_of days_of is_leap
spans = long ∙ sym (ap (λ (h : Header). quarters_of h.year h.month) reads.0)

low : (j : ℕ) → get_or series j 0 ≤ most_output
unfolding series
low j = low_append (replicate 42 100000) (replicate 2646 200000) most_output (low_replicate 42 100000 most_output (lit≤ tt)) (low_replicate 2646 200000 most_output (lit≤ tt)) j

no_fault : (fault_in book series).number ≡ 0
unfolding first_too_much
no_fault =
    let f : first_too_much series ≡ length series = first_of_all (too_much series) (length series) (λ j l. much_not series j (low j)) in
    ap (λ (v : Verdict). v.number) (series_good series _ spans (first_too_much series) refl (omega arith))

-- none of the records is refused
passes : (i : ℕ) → i < 5 → refusal_at (month_at book) seven (record_at book) i ≡ 0
unfolding
    book calls call february seven refusal_at number_of clash_at clashes overlaps is_once any_below open_to event_open is_by_rate
    header_at count_at record_at call_at call_bytes key_bytes time_bytes term_bytes le_at le_bytes book_bytes head_bytes mark_bytes date_bytes count_bytes record_bytes
passes zero l = refl
passes (suc zero) l = refl
passes (suc (suc zero)) l = refl
passes (suc (suc (suc zero))) l = refl
passes (suc (suc (suc (suc zero)))) l = refl
passes (suc (suc (suc (suc (suc i))))) l = absurd (omega arith)

is_accepted_lem : grains_earned seven book series ≡ Accepted (record { 0 = month_grains seven series (record_at book) (count_at book) })
unfolding seven member_is_sound
is_accepted_lem =
    earned_sound seven book series refl (ap (λ (v : Verdict). v.number) (sound_accepted book is_sound_lem))
    ∙ sound_records seven book series no_fault
    ∙ records_sum (month_at book) seven series (record_at book) (count_at book) (rw five (first_of_all (refusal_at (month_at book) seven (record_at book)) 5 passes))

-- half an hour of the window paid, 22,500,000,000 grains a quarter hour; the stop 20 points for each 10,000 kW; the event has Wh alone
pub parts : List CallPart
parts =
    record { place = 1; rate = 0; wh = record { 0 = pos 0 }; grains = record { 0 = 45000000000 }; quarters = 2 }
    ∷ record { place = 2; rate = 12000000; wh = record { 0 = pos 0 }; grains = record { 0 = 3600000000000 }; quarters = 0 }
    ∷ record { place = 4; rate = 0; wh = record { 0 = pos 40000 }; grains = record { 0 = 0 }; quarters = 0 }
    ∷ []

told : parts_from seven series 0 calls ≡ parts
unfolding
    calls call seven series parts parts_from own_part call_part is_own_live live_pay live_wh quarters_paid rate_of rated_pay start_stop_rate event_rate is_by_rate
    event_wh window_pay window_quarters quarter_counts quarter_at quarter_pay minute_pay deep_peak_minute lacking total
told = refl

parts_told : parts_of seven book series ≡ parts
unfolding parts_of
parts_told = ap (parts_from seven series 0) reads.1 ∙ told

wh_told : month_wh seven book ≡ pos 40000
unfolding month_wh parts parts_wh
wh_told = sym (before_wh seven book series (count_at book)) ∙ ap parts_wh (sym (parts_are seven book series) ∙ parts_told)

grains_told : month_grains seven series (record_at book) (count_at book) ≡ 3649800000000
unfolding month_grains month_wh parts parts_grains energy_pay clamp
grains_told =
    let t = sym (before_grains seven book series (count_at book)) ∙ ap parts_grains (sym (parts_are seven book series) ∙ parts_told) in
    let e = ap energy_pay wh_told in
    omega (arith, t, e)

pub explained : explaining seven book series (record { 0 = 400 } ∷ record { 0 = 600 } ∷ [])
    ≡ record {
      number = 0;
      place = 0;
      count = 3;
      wh = record { 0 = pos 40000 };
      energy = record { 0 = 4800000000 };
      added = record { 0 = 1000 };
      grains = record { 0 = 3649800001000 };
      parts = filled_up parts;
    }
unfolding explaining explain_earned hours_sum grains_plus energy_pay clamp parts
explained = rw (is_accepted_lem, parts_told, wh_told, grains_told) refl
