-- Windows cut, written out: what they pay whole and in parts, whichever part keeps the number, cut once and cut twice. Assumes nothing.
use mathlib.Core.Path.{◌≡◌, refl, ◌∙◌, ap, ap₂}
use mathlib.Core.Bool.{Bool, true, ◌&&◌}
use mathlib.Core.Logic.{inl, inr}
use mathlib.Core.List.Memᴰ.{head as here}
use mathlib.Core.List.Memᴰ.{tail as there}
use mathlib.Core.List.{List, [], ◌∷◌, ◌++◌}
use Prim.Native.Nat.{ℕ, zero, suc, ◌+◌, ◌-◌, ◌≤◌}
use native.Mathlib.Omega.{arith}
use lib.Dec.{leb, lit<, lit≤}
use lib.IntN.{pos, nat_abs}
use lib.ListN.{length, get_or, length-append, length-replicate}
use borrow.Author.Tests.{leb-true}
use Rattle.le.proofs.Tests.{each}
use Rattle.units.specs.Month.{is_leap, days_of, minutes_of, quarters_of}
use Rattle.units.specs.Money.{grains_to_fen}
use Rattle.call.specs.declared.Call.{Call}
use Rattle.call.specs.Limits.{table, limits_of, limits_allow, call_is_sound}
use Rattle.book.specs.declared.Header.{Header}
use Rattle.book.specs.Check.{header_minutes}
use Rattle.book.specs.Sound.{Sound}
use Rattle.book.specs.Without.{without}
use Rattle.book.proofs.Exact.{sound_accepted}
use Rattle.pay.specs.declared.Member.{Member}
use Rattle.pay.specs.declared.open.Month.{Month}
use Rattle.pay.specs.Kinds.{coal}
use Rattle.pay.specs.Member.{member_is_sound, MemberWithin}
use Rattle.pay.proofs.Within.{line_of}
use Rattle.pay.specs.Sum.{total, total_z}
use Rattle.pay.specs.Event.{clamp, energy_pay}
use Rattle.pay.specs.Open.{reserve_open, open_to}
use Rattle.pay.specs.Window.{lacking, deep_peak_minute, coal_band, coal_minute, reserve_minute, minute_pay, quarter_pay, quarter_at, window_pay}
use Rattle.pay.specs.Live.{live_pay, live_wh}
use Rattle.score.specs.declared.answer.Score.{Score}
use Rattle.score.specs.First.{first_nonzero, any_below}
use Rattle.score.specs.Series.{most_output}
use Rattle.score.specs.Refusing.{overlaps, is_once, clashes, clash_at, number_of, refusal_at}
use Rattle.score.specs.Scoring.{is_own_live, pay_of, wh_of, pay_at, wh_at, month_grains, first_refused, records_earned, grains_earned, in_fen, scoring}
use Rattle.score.specs.Outcomes.{Spans, Ready}
use Rattle.score.proofs.Empty.{still}
use Rattle.score.proofs.Turns.{score_is}
use Rattle.score.proofs.Listed.{earned_over_calls}
use Rattle.book.specs.Cut.{Cut}
use Rattle.book.proofs.Rising.{placed}
use Rattle.book.proofs.Samples.{march, good_from, Sample, sample, is_new, in_parts, window, by_first, by_second, CutTo, halved}
use Rattle.score.proofs.Cutting.{cut_same}

-- Outputs: some quarter hours, and none behind them

abbrev pub outputs : List ℕ → List ℕ
outputs xs = xs ++ still (2976 - length xs)

unfoldable pub low_all : List ℕ → Bool
low_all [] = true
low_all (x ∷ xs) = leb x 5000000 && low_all xs

still_none : (n j : ℕ) → get_or (still n) j 0 ≡ 0
still_none zero j = refl
still_none (suc n) zero = refl
still_none (suc n) (suc j) = still_none n j

low_append : (xs : List ℕ) (n : ℕ) → low_all xs ≡ true → (j : ℕ) → get_or (xs ++ still n) j 0 ≤ most_output
unfolding low_all
low_append [] n h j = rw (still_none n j) (omega arith)
low_append (x ∷ xs) n h zero = leb-true _ _ (each (leb x 5000000) (low_all xs ∷ []) h).0
low_append (x ∷ xs) n h (suc j) = low_append xs n (each (leb x 5000000) (low_all xs ∷ []) h).1.0 j

-- March has 2,976 quarter hours
quarters : quarters_of march.year march.month ≡ 2976
unfolding march quarters_of days_of is_leap
quarters = refl

abbrev pub march_month : Month
march_month = record { year = 2026; month = 3 }

-- The score of a member over a sample, and so many quarter hours of output

abbrev pub no_call : Call
no_call = record { participant = 0; service = 0; state = 0; number = 0; revision = 0; start = 0; length = 0; a = pos 0; b = 0; c = 0 }

pub outputs_span : (xs : List ℕ) → length xs ≤ 2976 → (cs : List Call) (s : Sample cs) → Spans s.book (outputs xs)
outputs_span xs few cs s =
    length-append xs (still (2976 - length xs)) ∙ omega (arith, length-replicate {A = ℕ} (2976 - length xs) 0, ap (λ (h : Header). quarters_of h.year h.month) s.header, quarters)

module _ (m : Member) (line : MemberWithin m) (xs : List ℕ) (few : length xs ≤ 2976) (low : low_all xs ≡ true) (cs : List Call) (s : Sample cs) where
  ready : Ready m s.book (outputs xs)
  ready =
      record {
        front = record { line = line; book = sound_accepted s.book s.sound };
        spans = outputs_span xs few cs s;
        within = λ j l. low_append xs (2976 - length xs) low j;
      }

  pub sample_earned : grains_earned m s.book (outputs xs) ≡ records_earned march_month m (outputs xs) (λ (i : ℕ). get_or cs i no_call) (length cs)
  unfolding march
  sample_earned =
      earned_over_calls m s.book (outputs xs) no_call ready
      ∙ ap₂ (λ (h : Header) (ds : List Call). records_earned (record { year = h.year; month = h.month }) m (outputs xs) (λ (i : ℕ). get_or ds i no_call) (length ds)) s.header s.calls

  pub sample_scored : scoring m s.book (outputs xs) ≡ in_fen (records_earned march_month m (outputs xs) (λ (i : ℕ). get_or cs i no_call) (length cs))
  sample_scored = score_is m s.book (outputs xs) _ sample_earned

-- member 7, coal of so many kW
abbrev pub plant : ℕ → Member
plant kw = record { number = 7; kind = coal; rated = record { 0 = kw } }

-- an accepted score, in grains and fen
abbrev pub scores : ℕ → ℕ → Score
scores grains fen = record { number = 0; place = 0; grains = record { 0 = grains }; fen = record { 0 = fen } }

-- a cut of a book over which the member has such a score: the same score
pub still_scores : (m : Member) (series b c : List ℕ) (grains fen : ℕ) → Sound b → Sound c → {whole first second : Call} → Cut b c whole first second
    → scoring m b series ≡ scores grains fen → scoring m c series ≡ scores grains fen
still_scores m series b c grains fen s t {whole} {first} {second} cut e = cut_same b c s t whole first second cut m series (ap (λ (r : Score). r.number) e) ∙ e

-- RESERVE: 300,000 kW, called up to 290,000 for two hours

abbrev pub rising : List ℕ
rising = 150000 ∷ 170000 ∷ 190000 ∷ 210000 ∷ 230000 ∷ 250000 ∷ 270000 ∷ 290000 ∷ []

abbrev pub called : ℕ → ℕ → ℕ → ℕ → Call
called number revision start minutes = window 2 290000 number revision start minutes

abbrev pub whole : Call
whole = called 5 1 0 120

pub coal_line : MemberWithin (plant 300000)
unfolding member_is_sound
coal_line = line_of (plant 300000) refl

pub before : Sample (whole ∷ [])
unfolding good_from march header_minutes minutes_of days_of is_leap call_is_sound limits_allow limits_of table
before = sample (whole ∷ []) (lit≤ tt) refl

-- what a call of it pays by itself
abbrev pays : Call → ℕ
pays x = live_pay (plant 300000) (outputs rising) x

-- whole: 13,650,000,000 grains, 227,500 fen
pub before_scored : scoring (plant 300000) before.book (outputs rising) ≡ scores 13650000000 227500
unfolding
    low_all in_fen grains_to_fen records_earned first_refused first_nonzero any_below refusal_at number_of open_to reserve_open
    month_grains total total_z pay_at wh_at pay_of wh_of is_own_live live_pay live_wh window_pay quarter_at quarter_pay minute_pay reserve_minute coal_minute coal_band lacking energy_pay clamp
before_scored = sample_scored (plant 300000) coal_line rising (lit≤ tt) refl (whole ∷ []) before

-- at 45, the new number above the old
pub above : CutTo before.book whole (called 5 2 0 45) (called 9 1 45 75) (called 5 2 0 45 ∷ called 9 1 45 75 ∷ [])
unfolding placed without is_new in_parts
above = halved _ before (lit< tt) 2 290000 5 1 0 120 (inr refl) (here refl) 5 2 9 1 45 refl (by_first refl refl)

-- below it: its record stands first
pub below : CutTo before.book whole (called 5 2 0 45) (called 2 1 45 75) (called 2 1 45 75 ∷ called 5 2 0 45 ∷ [])
unfolding placed without is_new in_parts
below = halved _ before (lit< tt) 2 290000 5 1 0 120 (inr refl) (here refl) 5 2 2 1 45 refl (by_first refl refl)

-- the second part keeps the number
pub second_kept : CutTo before.book whole (called 9 1 0 45) (called 5 2 45 75) (called 5 2 45 75 ∷ called 9 1 0 45 ∷ [])
unfolding placed without is_new in_parts
second_kept = halved _ before (lit< tt) 2 290000 5 1 0 120 (inr refl) (here refl) 9 1 5 2 45 refl (by_second refl refl)

-- the parts pay 11,550,000,000 and 2,100,000,000
pub parts_at_45 : (pays (called 5 2 0 45) ≡ 11550000000) × (pays (called 9 1 45 75) ≡ 2100000000)
unfolding total live_pay window_pay quarter_at quarter_pay minute_pay reserve_minute coal_minute coal_band lacking clamp
parts_at_45 = (refl, refl)

-- at 15: nothing, and all
pub at_15 : CutTo before.book whole (called 5 2 0 15) (called 9 1 15 105) (called 5 2 0 15 ∷ called 9 1 15 105 ∷ [])
unfolding placed without is_new in_parts
at_15 = halved _ before (lit< tt) 2 290000 5 1 0 120 (inr refl) (here refl) 5 2 9 1 15 refl (by_first refl refl)

pub at_15_below : CutTo before.book whole (called 5 2 0 15) (called 2 1 15 105) (called 2 1 15 105 ∷ called 5 2 0 15 ∷ [])
unfolding placed without is_new in_parts
at_15_below = halved _ before (lit< tt) 2 290000 5 1 0 120 (inr refl) (here refl) 5 2 2 1 15 refl (by_first refl refl)

pub at_15_second : CutTo before.book whole (called 9 1 0 15) (called 5 2 15 105) (called 5 2 15 105 ∷ called 9 1 0 15 ∷ [])
unfolding placed without is_new in_parts
at_15_second = halved _ before (lit< tt) 2 290000 5 1 0 120 (inr refl) (here refl) 9 1 5 2 15 refl (by_second refl refl)

pub parts_at_15 : (pays (called 5 2 0 15) ≡ 0) × (pays (called 9 1 15 105) ≡ 13650000000)
unfolding total live_pay window_pay quarter_at quarter_pay minute_pay reserve_minute coal_minute coal_band lacking clamp
parts_at_15 = (refl, refl)

-- each of them scores as the whole
all_rising : {b : List ℕ} {whole first second : Call} {cs : List Call} → Sound b → (t : CutTo b whole first second cs) → scoring (plant 300000) b (outputs rising) ≡ scores 13650000000 227500
    → scoring (plant 300000) t.after.book (outputs rising) ≡ scores 13650000000 227500
all_rising {b} s t e = still_scores (plant 300000) (outputs rising) b t.after.book 13650000000 227500 s t.after.sound t.is_cut e

pub each_scored : (scoring (plant 300000) above.after.book (outputs rising) ≡ scores 13650000000 227500)
    × (scoring (plant 300000) below.after.book (outputs rising) ≡ scores 13650000000 227500)
    × (scoring (plant 300000) second_kept.after.book (outputs rising) ≡ scores 13650000000 227500)
    × (scoring (plant 300000) at_15.after.book (outputs rising) ≡ scores 13650000000 227500)
    × (scoring (plant 300000) at_15_below.after.book (outputs rising) ≡ scores 13650000000 227500)
    × (scoring (plant 300000) at_15_second.after.book (outputs rising) ≡ scores 13650000000 227500)
each_scored =
    let from = before.sound in
    let e = before_scored in
    (all_rising from above e, all_rising from below e, all_rising from second_kept e, all_rising from at_15 e, all_rising from at_15_below e, all_rising from at_15_second e)

-- called up to 289,999 after 45 it would be 13,649,958,000: no cut
pub less_called : pays (called 5 2 0 45) + pays (window 2 289999 9 1 45 75) ≡ 13649958000
unfolding total live_pay window_pay quarter_at quarter_pay minute_pay reserve_minute coal_minute coal_band lacking clamp
less_called = refl

pub no_cut : (c : List ℕ) → Cut before.book c whole (called 5 2 0 45) (window 2 289999 9 1 45 75) → ⊥
no_cut c cut = let e : ◌≡◌ {A = ℕ} 289999 290000 = ap nat_abs cut.cuttable.second_part.same_a in omega arith

-- cut again, at 30 and at 75: into three, with new numbers above the old, below it, and with the last part keeping the number
pub at_30 : CutTo before.book whole (called 5 2 0 30) (called 9 1 30 90) (called 5 2 0 30 ∷ called 9 1 30 90 ∷ [])
unfolding placed without is_new in_parts
at_30 = halved _ before (lit< tt) 2 290000 5 1 0 120 (inr refl) (here refl) 5 2 9 1 30 refl (by_first refl refl)

pub in_three : CutTo at_30.after.book (called 9 1 30 90) (called 9 2 30 45) (called 12 1 75 45) (called 5 2 0 30 ∷ called 9 2 30 45 ∷ called 12 1 75 45 ∷ [])
unfolding placed without is_new in_parts
in_three = halved _ at_30.after (lit< tt) 2 290000 9 1 30 90 (inr refl) (there (here refl)) 9 2 12 1 75 refl (by_first refl refl)

pub at_30_below : CutTo before.book whole (called 5 2 0 30) (called 3 1 30 90) (called 3 1 30 90 ∷ called 5 2 0 30 ∷ [])
unfolding placed without is_new in_parts
at_30_below = halved _ before (lit< tt) 2 290000 5 1 0 120 (inr refl) (here refl) 5 2 3 1 30 refl (by_first refl refl)

pub in_three_below : CutTo at_30_below.after.book (called 3 1 30 90) (called 3 2 30 45) (called 1 1 75 45) (called 1 1 75 45 ∷ called 3 2 30 45 ∷ called 5 2 0 30 ∷ [])
unfolding placed without is_new in_parts
in_three_below = halved _ at_30_below.after (lit< tt) 2 290000 3 1 30 90 (inr refl) (here refl) 3 2 1 1 75 refl (by_first refl refl)

pub at_30_second : CutTo before.book whole (called 9 1 0 30) (called 5 2 30 90) (called 5 2 30 90 ∷ called 9 1 0 30 ∷ [])
unfolding placed without is_new in_parts
at_30_second = halved _ before (lit< tt) 2 290000 5 1 0 120 (inr refl) (here refl) 9 1 5 2 30 refl (by_second refl refl)

pub in_three_last : CutTo at_30_second.after.book (called 5 2 30 90) (called 12 1 30 45) (called 5 3 75 45) (called 5 3 75 45 ∷ called 9 1 0 30 ∷ called 12 1 30 45 ∷ [])
unfolding placed without is_new in_parts
in_three_last = halved _ at_30_second.after (lit< tt) 2 290000 5 2 30 90 (inr refl) (here refl) 12 1 5 3 75 refl (by_second refl refl)

-- `cut_same` twice
pub three_scored : (scoring (plant 300000) in_three.after.book (outputs rising) ≡ scores 13650000000 227500)
    × (scoring (plant 300000) in_three_below.after.book (outputs rising) ≡ scores 13650000000 227500)
    × (scoring (plant 300000) in_three_last.after.book (outputs rising) ≡ scores 13650000000 227500)
three_scored = (
  all_rising at_30.after.sound in_three (all_rising before.sound at_30 before_scored),
  all_rising at_30_below.after.sound in_three_below (all_rising before.sound at_30_below before_scored),
  all_rising at_30_second.after.sound in_three_last (all_rising before.sound at_30_second before_scored),
)

pub three_pay : (pays (called 5 2 0 30) ≡ 6300000000) × (pays (called 9 2 30 45) ≡ 6720000000) × (pays (called 12 1 75 45) ≡ 630000000)
unfolding total live_pay window_pay quarter_at quarter_pay minute_pay reserve_minute coal_minute coal_band lacking clamp
three_pay = (refl, refl, refl)

-- DEEP PEAK: 300,001 kW, two hours, quarter hour q at 100,000 + 10,001 q

abbrev slopes : List ℕ
slopes = 100000 ∷ 110001 ∷ 120002 ∷ 130003 ∷ 140004 ∷ 150005 ∷ 160006 ∷ 170007 ∷ []

abbrev pub deep : ℕ → ℕ → ℕ → ℕ → Call
deep number revision start minutes = window 1 0 number revision start minutes

odd_line : MemberWithin (plant 300001)
unfolding member_is_sound
odd_line = line_of (plant 300001) refl

pub deep_before : Sample (deep 5 1 0 120 ∷ [])
unfolding good_from march header_minutes minutes_of days_of is_leap call_is_sound limits_allow limits_of table
deep_before = sample (deep 5 1 0 120 ∷ []) (lit≤ tt) refl

abbrev deep_pays : Call → ℕ
deep_pays x = live_pay (plant 300001) (outputs slopes) x

-- whole: 67,496,625,000 grains, 1,124,944 fen
pub deep_scored : scoring (plant 300001) deep_before.book (outputs slopes) ≡ scores 67496625000 1124944
unfolding
    low_all in_fen grains_to_fen records_earned first_refused first_nonzero any_below refusal_at number_of open_to
    month_grains total total_z pay_at wh_at pay_of wh_of is_own_live live_pay live_wh window_pay quarter_at quarter_pay minute_pay deep_peak_minute lacking energy_pay clamp
deep_scored = sample_scored (plant 300001) odd_line slopes (lit≤ tt) refl (deep 5 1 0 120 ∷ []) deep_before

pub deep_at_60 : CutTo deep_before.book (deep 5 1 0 120) (deep 5 2 0 60) (deep 9 1 60 60) (deep 5 2 0 60 ∷ deep 9 1 60 60 ∷ [])
unfolding placed without is_new in_parts
deep_at_60 = halved _ deep_before (lit< tt) 1 0 5 1 0 120 (inl refl) (here refl) 5 2 9 1 60 refl (by_first refl refl)

pub deep_after : scoring (plant 300001) deep_at_60.after.book (outputs slopes) ≡ scores 67496625000 1124944
deep_after =
    still_scores (plant 300001) (outputs slopes) deep_before.book deep_at_60.after.book 67496625000 1124944 deep_before.sound deep_at_60.after.sound deep_at_60.is_cut deep_scored

-- its parts; and a quarter hour left out between them, 0 to 45 and 60 to 120
pub deep_parts : (deep_pays (deep 5 2 0 60) ≡ 62998200000) × (deep_pays (deep 9 1 60 60) ≡ 4498425000) × (deep_pays (deep 5 2 0 45) + deep_pays (deep 9 1 60 60) ≡ 58497750000)
unfolding total live_pay window_pay quarter_at quarter_pay minute_pay deep_peak_minute lacking
deep_parts = (refl, refl, refl)

pub no_gap : (c : List ℕ) → Cut deep_before.book c (deep 5 1 0 120) (deep 5 2 0 45) (deep 9 1 60 60) → ⊥
no_gap c cut = let e : ◌≡◌ {A = ℕ} 60 45 = cut.cuttable.meet in omega arith

-- FEN ARE MADE ONCE: three quarter hours at 150,000 of 300,001 kW are 675,000 grains, 11 fen, whole or in three parts, though each part alone would be 4

abbrev level : List ℕ
level = 150000 ∷ 150000 ∷ 150000 ∷ []

pub short : Sample (deep 5 1 0 45 ∷ [])
unfolding good_from march header_minutes minutes_of days_of is_leap call_is_sound limits_allow limits_of table
short = sample (deep 5 1 0 45 ∷ []) (lit≤ tt) refl

pub short_scored : scoring (plant 300001) short.book (outputs level) ≡ scores 675000 11
unfolding
    low_all in_fen grains_to_fen records_earned first_refused first_nonzero any_below refusal_at number_of open_to
    month_grains total total_z pay_at wh_at pay_of wh_of is_own_live live_pay live_wh window_pay quarter_at quarter_pay minute_pay deep_peak_minute lacking energy_pay clamp
short_scored = sample_scored (plant 300001) odd_line level (lit≤ tt) refl (deep 5 1 0 45 ∷ []) short

pub short_once : CutTo short.book (deep 5 1 0 45) (deep 5 2 0 15) (deep 9 1 15 30) (deep 5 2 0 15 ∷ deep 9 1 15 30 ∷ [])
unfolding placed without is_new in_parts
short_once = halved _ short (lit< tt) 1 0 5 1 0 45 (inl refl) (here refl) 5 2 9 1 15 refl (by_first refl refl)

pub short_twice : CutTo short_once.after.book (deep 9 1 15 30) (deep 9 2 15 15) (deep 12 1 30 15) (deep 5 2 0 15 ∷ deep 9 2 15 15 ∷ deep 12 1 30 15 ∷ [])
unfolding placed without is_new in_parts
short_twice = halved _ short_once.after (lit< tt) 1 0 9 1 15 30 (inl refl) (there (here refl)) 9 2 12 1 30 refl (by_first refl refl)

pub short_three : scoring (plant 300001) short_twice.after.book (outputs level) ≡ scores 675000 11
short_three =
    still_scores (plant 300001) (outputs level) short_once.after.book short_twice.after.book 675000 11 short_once.after.sound short_twice.after.sound short_twice.is_cut
    (still_scores (plant 300001) (outputs level) short.book short_once.after.book 675000 11 short.sound short_once.after.sound short_once.is_cut short_scored)

pub each_alone : (live_pay (plant 300001) (outputs level) (deep 5 2 0 15) ≡ 225000) × (grains_to_fen 225000 ≡ 4)
unfolding total live_pay window_pay quarter_at quarter_pay minute_pay deep_peak_minute lacking grains_to_fen
each_alone = (refl, refl)

-- OTHER WINDOWS BESIDE IT

-- one of the same service before it and one behind it, both meeting it: accepted before and after
pub neighbours : Sample (called 4 1 0 60 ∷ called 5 1 60 120 ∷ called 6 1 180 60 ∷ [])
unfolding good_from march header_minutes minutes_of days_of is_leap call_is_sound limits_allow limits_of table
neighbours = sample _ (lit≤ tt) refl

pub neighbours_scored : scoring (plant 300000) neighbours.book (outputs rising) ≡ scores 13650000000 227500
unfolding
    low_all in_fen grains_to_fen records_earned first_refused first_nonzero any_below refusal_at number_of open_to reserve_open clash_at clashes overlaps is_once
    month_grains total total_z pay_at wh_at pay_of wh_of is_own_live live_pay live_wh window_pay quarter_at quarter_pay minute_pay reserve_minute coal_minute coal_band lacking energy_pay clamp
neighbours_scored = sample_scored (plant 300000) coal_line rising (lit≤ tt) refl _ neighbours

pub between : CutTo neighbours.book (called 5 1 60 120) (called 5 2 60 45) (called 9 1 105 75) (called 4 1 0 60 ∷ called 5 2 60 45 ∷ called 6 1 180 60 ∷ called 9 1 105 75 ∷ [])
unfolding placed without is_new in_parts
between = halved _ neighbours (lit< tt) 2 290000 5 1 60 120 (inr refl) (there (here refl)) 5 2 9 1 105 refl (by_first refl refl)

pub between_scored : scoring (plant 300000) between.after.book (outputs rising) ≡ scores 13650000000 227500
between_scored = all_rising neighbours.sound between neighbours_scored

-- a window of service 1 and one of service 2 over the same minutes: both may be cut
pub over_each_other : Sample (deep 5 1 0 120 ∷ called 6 1 0 120 ∷ [])
unfolding good_from march header_minutes minutes_of days_of is_leap call_is_sound limits_allow limits_of table
over_each_other = sample _ (lit≤ tt) refl

pub both_scored : scoring (plant 300000) over_each_other.book (outputs rising) ≡ scores 13650000000 227500
unfolding
    low_all in_fen grains_to_fen records_earned first_refused first_nonzero any_below refusal_at number_of open_to reserve_open clash_at clashes overlaps is_once
    month_grains total total_z pay_at wh_at pay_of wh_of is_own_live live_pay live_wh window_pay quarter_at quarter_pay minute_pay deep_peak_minute reserve_minute coal_minute coal_band lacking
    energy_pay clamp
both_scored = sample_scored (plant 300000) coal_line rising (lit≤ tt) refl _ over_each_other

pub one_of_both : CutTo over_each_other.book (deep 5 1 0 120) (deep 5 2 0 45) (deep 9 1 45 75) (deep 5 2 0 45 ∷ called 6 1 0 120 ∷ deep 9 1 45 75 ∷ [])
unfolding placed without is_new in_parts
one_of_both = halved _ over_each_other (lit< tt) 1 0 5 1 0 120 (inl refl) (here refl) 5 2 9 1 45 refl (by_first refl refl)

pub other_of_both : CutTo one_of_both.after.book (called 6 1 0 120) (called 6 2 0 60) (called 10 1 60 60) (deep 5 2 0 45 ∷ called 6 2 0 60 ∷ deep 9 1 45 75 ∷ called 10 1 60 60 ∷ [])
unfolding placed without is_new in_parts
other_of_both = halved _ one_of_both.after (lit< tt) 2 290000 6 1 0 120 (inr refl) (there (here refl)) 6 2 10 1 60 refl (by_first refl refl)

pub both_cut : scoring (plant 300000) other_of_both.after.book (outputs rising) ≡ scores 13650000000 227500
both_cut = all_rising one_of_both.after.sound other_of_both (all_rising over_each_other.sound one_of_both both_scored)

-- a window that ends with the month, cut at its last quarter hour: a unit at rest for two hours, 540,000,000,000 grains
pub last_hours : Sample (deep 5 1 44520 120 ∷ [])
unfolding good_from march header_minutes minutes_of days_of is_leap call_is_sound limits_allow limits_of table
last_hours = sample _ (lit≤ tt) refl

pub last_quarter : CutTo last_hours.book (deep 5 1 44520 120) (deep 5 2 44520 105) (deep 9 1 44625 15) (deep 5 2 44520 105 ∷ deep 9 1 44625 15 ∷ [])
unfolding placed without is_new in_parts
last_quarter = halved _ last_hours (lit< tt) 1 0 5 1 44520 120 (inl refl) (here refl) 5 2 9 1 44625 refl (by_first refl refl)

pub last_scored : scoring (plant 300000) last_hours.book (outputs []) ≡ scores 540000000000 9000000
unfolding
    low_all in_fen grains_to_fen records_earned first_refused first_nonzero any_below refusal_at number_of open_to
    month_grains total total_z pay_at wh_at pay_of wh_of is_own_live live_pay live_wh window_pay quarter_at quarter_pay minute_pay deep_peak_minute lacking energy_pay clamp
last_scored = sample_scored (plant 300000) coal_line [] (lit≤ tt) refl _ last_hours

pub last_after : scoring (plant 300000) last_quarter.after.book (outputs []) ≡ scores 540000000000 9000000
last_after =
    still_scores (plant 300000) (outputs []) last_hours.book last_quarter.after.book 540000000000 9000000 last_hours.sound last_quarter.after.sound last_quarter.is_cut last_scored
