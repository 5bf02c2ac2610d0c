-- A withdrawn stop of member 3, then a contested call of member 5: member 5 is refused at record 1, and without the stop at record 0. Assumes nothing.
use mathlib.Core.Path.{◌≡◌, refl, sym, ◌∙◌, ap}
use mathlib.Core.List.{List, [], ◌∷◌}
use Prim.Native.Nat.{ℕ, ◌≤◌, ◌<◌}
use native.Mathlib.Nat.{zero-add}
use native.Mathlib.Omega.{arith}
use lib.Dec.{lit<, lit≤}
use lib.IntN.{pos}
use lib.ListN.{length, get_or, length-replicate, get_or-replicate}
use Rattle.units.specs.Month.{is_leap, days_of, minutes_of, quarters_of}
use Rattle.call.specs.declared.Call.{Call}
use Rattle.call.specs.Key.{call_key}
use Rattle.call.specs.Limits.{table, limits_of, limits_allow, call_is_sound}
use Rattle.call.specs.Revising.{contested, withdrawn}
use Rattle.call.specs.Service.{CallWithin}
use Rattle.call.proofs.Exact.{sound_within}
use Rattle.book.specs.declared.Header.{Header}
use Rattle.book.specs.Book.{first_version, header_at, count_at, record_at, calls_of, book_bytes}
use Rattle.book.specs.Check.{header_minutes}
use Rattle.book.specs.Sound.{Heading, CallsWithin, Sound}
use Rattle.book.specs.Without.{book_without}
use Rattle.book.proofs.Heads.{first_known, first_fits}
use Rattle.book.proofs.Exact.{sound_accepted, reads_back}
use Rattle.book.proofs.Records.{length_calls}
use Rattle.book.proofs.Without.{call_in, in_calls}
use Rattle.pay.specs.declared.Member.{Member}
use Rattle.pay.specs.Member.{MemberWithin}
use Rattle.score.specs.Series.{most_output}
use Rattle.score.specs.Scoring.{score_refused, scoring}
use Rattle.score.specs.Outcomes.{Ready, other, RecordsTurn, is_contested_lem}
use Rattle.score.specs.Lowered.{lower_place, is_of_record, lowered}
use Rattle.score.proofs.Empty.{still}
use Rattle.score.proofs.Exact.{outcome_exact}
use Rattle.score.proofs.Withdrawn.{withdrawn_score}

-- March 2026, area 12
march : Header
march = record { area = 12; year = 2026; month = 3 }

march_heads : Heading march
unfolding march
march_heads = record { area = (lit≤ tt, lit≤ tt); year = (lit≤ tt, lit≤ tt); month = (lit≤ tt, lit≤ tt) }

-- the two records
blank : ℕ → ℕ → ℕ → Call
blank participant state number =
    record { participant = participant; service = 0; state = state; number = number; revision = 1; start = 0; length = 0; a = pos 0; b = 0; c = 0 }

stop : Call
stop = blank 3 withdrawn 9

contest : Call
contest = blank 5 contested 2

stop_within : CallWithin (header_minutes march) stop
unfolding stop blank march header_minutes minutes_of days_of is_leap call_is_sound limits_allow limits_of table
stop_within = sound_within (header_minutes march) stop (lit< tt) (lit< tt) refl

contest_within : CallWithin (header_minutes march) contest
unfolding contest blank march header_minutes minutes_of days_of is_leap call_is_sound limits_allow limits_of table
contest_within = sound_within (header_minutes march) contest (lit< tt) (lit< tt) refl

within : CallsWithin (header_minutes march) (stop ∷ contest ∷ [])
within = (stop_within, (contest_within, tt))

pub book : List ℕ
book = book_bytes first_version march (stop ∷ contest ∷ [])

pub is_sound_lem : Sound book
unfolding book stop contest blank
is_sound_lem =
    record {
      version = first_version;
      header = march;
      calls = stop ∷ contest ∷ [];
      known = first_known;
      heading = march_heads;
      few = first_fits _ (lit≤ tt);
      within = within;
      rising = (lit≤ tt, (lit≤ tt, tt));
      bytes = refl;
    }

reads : (header_at book ≡ march) × (calls_of book ≡ stop ∷ contest ∷ [])
unfolding book
reads = reads_back first_version march (stop ∷ contest ∷ []) first_known march_heads (first_fits _ (lit≤ tt)) within

two : count_at book ≡ 2
unfolding calls_of
two = sym (length_calls book (count_at book) 0) ∙ ap length reads.1

-- record i is call i
record_is : (i : ℕ) → i < 2 → record_at book i ≡ call_in (stop ∷ contest ∷ []) i
unfolding calls_of
record_is i l =
    ap (record_at book) (sym (zero-add i)) ∙ sym (in_calls book 0 (count_at book) i (omega (arith, two))) ∙ ap (λ (cs : List Call). call_in cs i) reads.1

-- member 5, and a series of zeros
pub five : Member
five = record { number = 5; kind = 1; rated = record { 0 = 300000 } }

five_within : MemberWithin five
unfolding five
five_within = record { number = (lit≤ tt, lit≤ tt); kind = (lit≤ tt, lit≤ tt); rated = (lit≤ tt, lit≤ tt) }

abbrev quarters : ℕ
quarters = quarters_of march.year march.month

pub zeros : List ℕ
zeros = still quarters

ready : Ready five book zeros
unfolding zeros
ready =
    record {
      front = record { line = five_within; book = sound_accepted book is_sound_lem };
      spans = length-replicate quarters 0 ∙ sym (ap (λ (h : Header). quarters_of h.year h.month) reads.0);
      within = small;
    }
  where
    small : (j : ℕ) → j < length (still quarters) → get_or (still quarters) j 0 ≤ most_output
    small j l =
        let n : length (still quarters) ≡ quarters = length-replicate quarters 0 in
        let e : get_or (still quarters) j 0 ≡ 0 = get_or-replicate quarters j 0 0 (omega (arith, n)) in
        omega (arith, e)

turn : RecordsTurn five book zeros 1
unfolding five stop contest blank
turn =
    record {
      ready = ready;
      is_record_lem = omega (arith, two);
      clear = λ k l. other (λ e. let z : k ≡ 0 = omega arith in let p : ◌≡◌ {A = ℕ} 3 5 = sym (ap (λ (c : Call). c.participant) (ap (record_at book) z ∙ record_is 0 (lit< tt))) ∙ e in omega arith);
      own = ap (λ (c : Call). c.participant) (record_is 1 (lit< tt));
    }

-- refused with 14 at record 1
pub refused_behind : scoring five book zeros ≡ score_refused 14 1
unfolding contest blank
refused_behind = sym ((outcome_exact five book zeros _).1 (is_contested_lem 1 refl turn (ap (λ (c : Call). c.state) (record_is 1 (lit< tt)))))

-- and without the withdrawn stop at record 0
pub refused_lowered : scoring five (book_without (call_key (record_at book 0)) book) zeros ≡ score_refused 14 0
unfolding stop blank lowered lower_place is_of_record
refused_lowered =
    withdrawn_score book is_sound_lem 0 (omega (arith, two)) (ap (λ (c : Call). c.state) (record_is 0 (lit< tt))) five zeros
    ∙ ap (lowered 0) refused_behind
