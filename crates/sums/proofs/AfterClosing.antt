-- A live black start of January 2027 over bytes (request 9): its book is sound, is joined with another as any book is, and scoring turns it away at its record. Assumes nothing.
use mathlib.Core.Path.{◌≡◌, refl, sym, ◌∙◌, ap}
use mathlib.Core.List.{List, [], ◌∷◌, ◌++◌}
use mathlib.Core.Logic.{◌↔◌}
use Prim.Native.Nat.{ℕ, zero, suc, ◌≤◌, ◌<◌}
use native.Mathlib.Omega.{arith}
use lib.Dec.{lit<, lit≤}
use lib.ListN.{length, get_or, drop, length-replicate, get_or-replicate}
use Rattle.le.specs.Le.{le_at, le_bytes, IsBytes}
use Rattle.le.proofs.Laws.{bytes_tested}
use Rattle.units.specs.Month.{is_leap, days_of, minutes_of, quarters_of}
use Rattle.call.specs.declared.Call.{Call}
use Rattle.call.specs.Layout.{call_at, key_bytes, time_bytes, term_bytes, call_bytes}
use Rattle.call.specs.Limits.{table, limits_of, limits_allow, call_is_sound}
use Rattle.call.specs.Service.{CallWithin}
use Rattle.book.specs.declared.Header.{Header}
use Rattle.book.specs.Book.{most_records, header_at, count_at, record_at, calls_from, calls_of, mark_bytes, date_bytes, count_bytes, head_bytes, record_bytes, book_bytes}
use Rattle.book.specs.Check.{accepted, is_marked, is_known, is_versioned, header_is_sound, is_headed, header_minutes, is_record, judge, check_records, check}
use Rattle.book.specs.Sound.{Sound}
use Rattle.book.proofs.Exact.{accepted_sound}
use Rattle.rule.specs.Standing.{same_call, decide, given, standing}
use Rattle.rule.specs.Keys.{record_of, also, put, put_all, different_keys, records_at}
use Rattle.rule.specs.Joined.{joined_at, joined_for, join_calls}
use Rattle.join.specs.Turns.{ran}
use Rattle.join.specs.Joining.{JoinOutcome, join_wrote, key_count, keys_of_both, joined_of, pair_version, joined_book, joining}
use Rattle.join.specs.Verdict.{Alike, joined}
use Rattle.join.proofs.Exact.{join_exact}
use Rattle.pay.specs.declared.Member.{Member}
use Rattle.pay.specs.Kinds.{hydro}
use Rattle.pay.specs.Member.{MemberWithin}
use Rattle.pay.proofs.OpenExact.{from_2027}
use Rattle.score.specs.Scoring.{month_at, score_refused, scoring}
use Rattle.score.specs.Outcomes.{ValuesWithin, Ready, other, RecordsTurn}
use Rattle.score.proofs.Empty.{still}
use Rattle.score.proofs.Bidding.{turned_away_lem}

-- A record's soundness knows the month by its minutes alone: in two months of one length the same records are within the limits, before the closing month and from it on.
pub month_by_minutes : (h k : Header) (x : Call) → header_minutes h ≡ header_minutes k → CallWithin (header_minutes h) x ↔ CallWithin (header_minutes k) x
month_by_minutes h k x e = (λ w. rw e at w, λ w. rw e w)

-- area 5, January 2027: member 7's black start, call 1, revision 1
unfoldable pub start_book : List ℕ
start_book =
    78 ∷ 87 ∷ 66 ∷ 5 ∷ 1 ∷ 0 ∷ 235 ∷ 7 ∷ 1 ∷ 0 ∷ 1 ∷ 0 ∷ 0 ∷ 0 ∷ 0 ∷ 0 ∷
    7 ∷ 0 ∷ 5 ∷ 0 ∷ 1 ∷ 0 ∷ 0 ∷ 0 ∷ 1 ∷ 0 ∷ 0 ∷ 0 ∷ 0 ∷ 0 ∷ 0 ∷ 0 ∷ 0 ∷ 0 ∷ 0 ∷ 0 ∷ 0 ∷ 0 ∷ 0 ∷ 0 ∷ 0 ∷ 0 ∷ 0 ∷ 0 ∷ 0 ∷ 0 ∷ 0 ∷ 0 ∷ []

-- the same month and area: member 3's stability trip, call 4, revision 1
unfoldable pub trip_book : List ℕ
trip_book =
    78 ∷ 87 ∷ 66 ∷ 5 ∷ 1 ∷ 0 ∷ 235 ∷ 7 ∷ 1 ∷ 0 ∷ 1 ∷ 0 ∷ 0 ∷ 0 ∷ 0 ∷ 0 ∷
    3 ∷ 0 ∷ 10 ∷ 0 ∷ 4 ∷ 0 ∷ 0 ∷ 0 ∷ 1 ∷ 0 ∷ 0 ∷ 0 ∷ 0 ∷ 0 ∷ 0 ∷ 0 ∷ 0 ∷ 0 ∷ 0 ∷ 0 ∷ 0 ∷ 0 ∷ 0 ∷ 0 ∷ 0 ∷ 0 ∷ 0 ∷ 0 ∷ 0 ∷ 0 ∷ 0 ∷ 0 ∷ []

-- both: the trip is record 0, the black start record 1
unfoldable pub both_book : List ℕ
both_book =
    78 ∷ 87 ∷ 66 ∷ 5 ∷ 1 ∷ 0 ∷ 235 ∷ 7 ∷ 1 ∷ 0 ∷ 2 ∷ 0 ∷ 0 ∷ 0 ∷ 0 ∷ 0 ∷
    3 ∷ 0 ∷ 10 ∷ 0 ∷ 4 ∷ 0 ∷ 0 ∷ 0 ∷ 1 ∷ 0 ∷ 0 ∷ 0 ∷ 0 ∷ 0 ∷ 0 ∷ 0 ∷ 0 ∷ 0 ∷ 0 ∷ 0 ∷ 0 ∷ 0 ∷ 0 ∷ 0 ∷ 0 ∷ 0 ∷ 0 ∷ 0 ∷ 0 ∷ 0 ∷ 0 ∷ 0 ∷
    7 ∷ 0 ∷ 5 ∷ 0 ∷ 1 ∷ 0 ∷ 0 ∷ 0 ∷ 1 ∷ 0 ∷ 0 ∷ 0 ∷ 0 ∷ 0 ∷ 0 ∷ 0 ∷ 0 ∷ 0 ∷ 0 ∷ 0 ∷ 0 ∷ 0 ∷ 0 ∷ 0 ∷ 0 ∷ 0 ∷ 0 ∷ 0 ∷ 0 ∷ 0 ∷ 0 ∷ 0 ∷ []

-- The books are sound

start_bytes : IsBytes start_book
unfolding start_book
start_bytes = bytes_tested start_book refl

trip_bytes : IsBytes trip_book
unfolding trip_book
trip_bytes = bytes_tested trip_book refl

both_bytes : IsBytes both_book
unfolding both_book
both_bytes = bytes_tested both_book refl

pub start_accepted : check start_book ≡ accepted
unfolding
    start_book check check_records judge is_record header_is_sound is_headed is_versioned is_known most_records is_marked header_minutes minutes_of days_of is_leap
    header_at count_at record_at call_at le_at call_is_sound limits_allow limits_of table
start_accepted = refl

trip_accepted : check trip_book ≡ accepted
unfolding
    trip_book check check_records judge is_record header_is_sound is_headed is_versioned is_known most_records is_marked header_minutes minutes_of days_of is_leap
    header_at count_at record_at call_at le_at call_is_sound limits_allow limits_of table
trip_accepted = refl

pub both_accepted : check both_book ≡ accepted
unfolding
    both_book check check_records judge is_record header_is_sound is_headed is_versioned is_known most_records is_marked header_minutes minutes_of days_of is_leap
    header_at count_at record_at call_at le_at call_is_sound limits_allow limits_of table
both_accepted = refl

-- A BLACK START CAN STILL BE READ: the book is sound,
pub start_sound : Sound start_book
start_sound = (accepted_sound start_book start_bytes start_accepted).0

-- They are joined

alike : Alike start_book trip_book
unfolding start_book trip_book header_at le_at
alike = record { first_sound = start_sound; second_sound = (accepted_sound trip_book trip_bytes trip_accepted).0; year = refl; month = refl; area = refl }

two_keys : keys_of_both start_book trip_book ≡ 2
unfolding start_book trip_book key_count different_keys put_all put calls_of calls_from count_at record_at call_at le_at
two_keys = refl

given_both : joined_book start_book trip_book ≡ both_book
unfolding
    start_book trip_book both_book pair_version key_count different_keys put_all put joined_of join_calls joined_for joined_at records_at record_of also standing given decide same_call
    book_bytes record_bytes head_bytes count_bytes date_bytes mark_bytes calls_of calls_from count_at record_at header_at most_records call_bytes term_bytes time_bytes key_bytes call_at le_at le_bytes
given_both = refl

-- AND JOINED: with another's book, into any output of 80 bytes and more, it gives the book of both, and the bytes behind it stay;
pub start_joins : (out : List ℕ) → 80 ≤ length out → ((joining start_book trip_book out).number ≡ 0) × ((joining start_book trip_book out).out ≡ both_book ++ drop (length both_book) out)
start_joins out room =
    let e : joining start_book trip_book out ≡ join_wrote (joined_book start_book trip_book) (ran start_book trip_book out).turns out =
    (join_exact start_book trip_book out start_bytes trip_bytes _).1 (joined alike (omega (arith, two_keys)) (omega (arith, two_keys, room)) refl) in
    (ap (λ (o : JoinOutcome). o.number) e, ap (λ (o : JoinOutcome). o.out) e ∙ ap (λ (b : List ℕ). b ++ drop (length b) out) given_both)

-- It is turned away in scoring

abbrev pub hydro7 : Member
hydro7 = record { number = 7; kind = hydro; rated = record { 0 = 3000000 } }

hydro_within : MemberWithin hydro7
hydro_within = record { number = (lit≤ tt, lit≤ tt); kind = (lit≤ tt, lit≤ tt); rated = (lit≤ tt, lit≤ tt) }

-- January has 2,976 quarter hours
january_start : quarters_of (header_at start_book).year (header_at start_book).month ≡ 2976
unfolding start_book header_at le_at quarters_of days_of is_leap
january_start = refl

january_both : quarters_of (header_at both_book).year (header_at both_book).month ≡ 2976
unfolding both_book header_at le_at quarters_of days_of is_leap
january_both = refl

module _ (series : List ℕ) (month : length series ≡ 2976) (within : ValuesWithin series 2976) where
  ready : (b : List ℕ) → check b ≡ accepted → quarters_of (header_at b).year (header_at b).month ≡ 2976 → Ready hydro7 b series
  ready b ok e = record { front = record { line = hydro_within; book = ok }; spans = month ∙ sym e; within = λ j l. within j (omega (arith, l, month)) }

  start_turn : RecordsTurn hydro7 start_book series 0
  unfolding start_book count_at record_at call_at le_at
  start_turn = record { ready = ready start_book start_accepted january_start; is_record_lem = lit< tt; clear = λ k l. absurd (omega (arith, l)); own = refl }

  -- BUT NOT SCORED: 12 at its record, whatever the outputs were;
  pub start_refused : scoring hydro7 start_book series ≡ score_refused 12 0
  unfolding start_book header_at record_at call_at le_at
  start_refused = turned_away_lem hydro7 start_book series 0 (from_2027 (month_at start_book) (lit≤ tt) (lit≤ tt)) start_turn refl refl

  trip_other : (k : ℕ) → k < 1 → (record_at both_book k).participant ≡ 7 → ⊥
  unfolding both_book record_at call_at le_at
  trip_other zero l e = omega (arith, e)
  trip_other (suc k) l e = omega (arith, l)

  both_turn : RecordsTurn hydro7 both_book series 1
  unfolding both_book count_at record_at call_at le_at
  both_turn = record { ready = ready both_book both_accepted january_both; is_record_lem = lit< tt; clear = λ k l. other (trip_other k l); own = refl }

  -- and behind the trip in the book of both.
  pub both_refused : scoring hydro7 both_book series ≡ score_refused 12 1
  unfolding both_book header_at record_at call_at le_at
  both_refused = turned_away_lem hydro7 both_book series 1 (from_2027 (month_at both_book) (lit≤ tt) (lit≤ tt)) both_turn refl refl

-- there are such series: a month without output
still_within : ValuesWithin (still 2976) 2976
still_within j l =
    let e : get_or (still 2976) j 0 ≡ 0 = get_or-replicate 2976 j 0 0 l in
    omega (arith, e)

pub still_refused : (scoring hydro7 start_book (still 2976) ≡ score_refused 12 0) × (scoring hydro7 both_book (still 2976) ≡ score_refused 12 1)
still_refused =
    (start_refused (still 2976) (length-replicate {A = ℕ} 2976 0) still_within, both_refused (still 2976) (length-replicate {A = ℕ} 2976 0) still_within)
