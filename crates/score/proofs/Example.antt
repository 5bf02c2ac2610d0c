-- The book of docs/FORMAT.md scored: over the very bytes that are shown there, one member's grains and fen, and another's refusal. Assumes nothing.
use mathlib.Core.Path.{◌≡◌, refl, sym, ◌∙◌}
use mathlib.Core.Bool.{true≢false}
use mathlib.Core.List.{List}
use Prim.Native.Nat.{ℕ, zero, suc}
use native.Mathlib.Omega.{arith}
use lib.Dec.{lit≤}
use lib.ListN.{length, get_or, length-replicate, get_or-replicate}
use Rattle.le.specs.Le.{le_at}
use Rattle.units.specs.Month.{is_leap, days_of, quarters_of}
use Rattle.units.specs.Money.{grains_to_fen}
use Rattle.call.specs.Layout.{call_at}
use Rattle.book.specs.Book.{header_at, count_at, record_at}
use Rattle.book.proofs.Exact.{sound_accepted}
use Rattle.book.proofs.Example.{bytes, is_sound_lem}
use Rattle.pay.specs.declared.Member.{Member}
use Rattle.pay.specs.Kinds.{coal, wind}
use Rattle.pay.specs.Sum.{total, total_z}
use Rattle.pay.specs.Member.{member_is_sound, MemberWithin, is_by_rate}
use Rattle.pay.proofs.Within.{line_of}
use Rattle.pay.specs.Rate.{start_stop_rate, rate_of, rated_pay}
use Rattle.pay.specs.Event.{clamp, energy_pay}
use Rattle.pay.specs.Open.{is_zero, event_open, open_to}
use Rattle.pay.specs.Live.{live_pay, live_wh}
use Rattle.score.specs.Scoring.{is_own_live, pay_of, wh_of, pay_at, wh_at, month_grains, month_at, score_refused, scoring}
use Rattle.score.specs.Outcomes.{ValuesWithin, Ready, Passes, other, good, Clear, RecordsTurn, scored, not_open_lem}
use Rattle.score.proofs.Exact.{outcome_exact}
use Rattle.score.proofs.Empty.{still}

-- member 7, coal of 300,000 kW; member 9, wind of as many
abbrev pub member7 : Member
member7 = record { number = 7; kind = coal; rated = record { 0 = 300000 } }

abbrev pub member9 : Member
member9 = record { number = 9; kind = wind; rated = record { 0 = 300000 } }

-- February 2026 has 2,688 quarter hours
quarters : quarters_of (header_at bytes).year (header_at bytes).month ≡ 2688
unfolding bytes header_at le_at quarters_of days_of is_leap
quarters = refl

module _ (series : List ℕ) (month : length series ≡ 2688) (within : ValuesWithin series 2688) where
  ready : (m : Member) → MemberWithin m → Ready m bytes series
  ready m line =
      record {
        front = record { line = line; book = sound_accepted bytes is_sound_lem };
        spans = month ∙ sym quarters;
        within = λ j l. within j (omega (arith, l, month));
      }

  -- coal's stop is open to it, and no call comes before it
  stop_passes : Passes (month_at bytes) member7 (record_at bytes) 0
  unfolding bytes record_at call_at le_at open_to
  stop_passes = good refl refl refl (λ j l. absurd (omega (arith, l)))

  event_passes : Passes (month_at bytes) member7 (record_at bytes) 1
  unfolding bytes record_at call_at le_at
  event_passes = other (λ e. absurd (omega (arith, e)))

  both_pass : Clear (month_at bytes) member7 (record_at bytes) 2
  both_pass zero l = stop_passes
  both_pass (suc zero) l = event_passes
  both_pass (suc (suc k)) l = absurd (omega (arith, l))

  its_grains : month_grains member7 series (record_at bytes) (count_at bytes) ≡ 3600000000000
  unfolding
      bytes count_at record_at call_at le_at
      month_grains total total_z pay_at wh_at pay_of wh_of is_own_live live_pay live_wh rated_pay rate_of start_stop_rate energy_pay clamp
  its_grains = refl

  -- 300,000 kW at 12,000,000 grains, whatever the outputs were; the other member's event is not asked
  pub format_book_scored : scoring member7 bytes series ≡ record { number = 0; place = 0; grains = record { 0 = 3600000000000 }; fen = record { 0 = 60000000 } }
  unfolding bytes count_at le_at grains_to_fen member_is_sound
  format_book_scored =
      sym ((outcome_exact member7 bytes series _).1 (scored 3600000000000 refl (ready member7 (line_of member7 refl)) both_pass (sym its_grains)))

  -- the stop is another's
  stop_other : Clear (month_at bytes) member9 (record_at bytes) 1
  unfolding bytes record_at call_at le_at
  stop_other zero l = other (λ e. absurd (omega (arith, e)))
  stop_other (suc k) l = absurd (omega (arith, l))

  event_turn : RecordsTurn member9 bytes series 1
  unfolding bytes count_at record_at call_at le_at member_is_sound
  event_turn = record { ready = ready member9 (line_of member9 refl); is_record_lem = lit≤ tt; clear = stop_other; own = refl }

  -- wind's events have a = 0, and this one has a = −70,000: 12, told at record 1 of the book
  pub format_book_refused : scoring member9 bytes series ≡ score_refused 12 1
  unfolding bytes record_at call_at le_at open_to event_open is_by_rate is_zero
  format_book_refused = sym ((outcome_exact member9 bytes series _).1 (not_open_lem 1 refl event_turn refl (λ e. true≢false (sym e))))

-- there are such series: a month without output
still_within : ValuesWithin (still 2688) 2688
still_within j l =
    let e : get_or (still 2688) j 0 ≡ 0 = get_or-replicate 2688 j 0 0 l in
    omega (arith, e)

pub format_book_still : scoring member7 bytes (still 2688) ≡ record { number = 0; place = 0; grains = record { 0 = 3600000000000 }; fen = record { 0 = 60000000 } }
format_book_still = format_book_scored (still 2688) (length-replicate {A = ℕ} 2688 0) still_within
