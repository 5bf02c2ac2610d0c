-- Two books that differ in others' records alone: one refusal, at places that differ in the books and agree from the member's first record on. Assumes nothing.
use mathlib.Core.Path.{◌≡◌, refl, sym, ◌∙◌, ap}
use mathlib.Core.Logic.{◌⊎◌, inl, inr, ◌↔◌}
use mathlib.Core.List.Memᴰ.{cases_cons as in-cons}
use mathlib.Core.List.Memᴰ.{tail as there}
use mathlib.Core.List.{List, [], ◌∷◌, Memᴰ as In}
use Prim.Native.Nat.{ℕ, zero, suc, ◌≤◌, ◌<◌}
use native.Mathlib.Nat.{zero-add}
use native.Mathlib.Omega.{arith}
use lib.Dec.{lit≤, lit<}
use lib.IntN.{pos}
use lib.ListN.{length, get_or}
use Rattle.units.specs.Month.{is_leap, days_of, minutes_of}
use Rattle.call.specs.declared.Call.{Call}
use Rattle.call.specs.Limits.{table, limits_of, limits_allow, call_is_sound}
use Rattle.book.specs.declared.Header.{Header}
use Rattle.book.specs.Book.{header_at, count_at, record_at, calls_of}
use Rattle.book.specs.Check.{header_minutes}
use Rattle.book.proofs.Exact.{sound_accepted}
use Rattle.book.proofs.Without.{call_in, in_calls}
use Rattle.pay.specs.declared.Member.{Member}
use Rattle.pay.specs.Kinds.{wind}
use Rattle.pay.specs.Member.{member_is_sound, MemberWithin}
use Rattle.pay.specs.Open.{reserve_open, open_to}
use Rattle.pay.proofs.Within.{line_of}
use Rattle.score.specs.First.{first_nonzero, any_below}
use Rattle.score.specs.Refusing.{is_once, clashes, clash_at, own_at, first_own, number_of, refusal_at}
use Rattle.score.specs.Scoring.{first_refused, records_earned, score_refused, in_fen, scoring}
use Rattle.score.specs.Own.{own_start, Agree, from_first}
use Rattle.score.specs.Series.{most_output}
use Rattle.score.specs.Outcomes.{bad_value}
use Rattle.score.proofs.First.{first_none, first_hit, first_of_all}
use Rattle.score.proofs.Turns.{own_yes, own_not}
use Rattle.score.proofs.Exact.{outcome_exact}
use Rattle.book.proofs.Samples.{march, good_from, Sample, sample, sample_count, window}
use Rattle.score.proofs.Agreeing.{agree_by_calls, own_calls_only}
use Rattle.score.proofs.CutStory.{outputs, outputs_span, low_all, sample_scored}

-- member 7, wind; its trip, and behind it a live reserve window, to which wind is not open; and another member's trip
abbrev pub seven : Member
seven = record { number = 7; kind = wind; rated = record { 0 = 50000 } }

abbrev trip : ℕ → Call
trip participant = record { participant = participant; service = 10; state = 0; number = 1; revision = 1; start = 600; length = 0; a = pos 0; b = 0; c = 0 }

abbrev own : List Call
own = trip 7 ∷ window 2 0 2 1 0 60 ∷ []

-- its records alone, and with the other's record in front of them
pub alone : Sample own
unfolding good_from march header_minutes minutes_of days_of is_leap call_is_sound limits_allow limits_of table
alone = sample own (lit≤ tt) refl

pub behind : Sample (trip 3 ∷ own)
unfolding good_from march header_minutes minutes_of days_of is_leap call_is_sound limits_allow limits_of table
behind = sample (trip 3 ∷ own) (lit≤ tt) refl

seven_line : MemberWithin seven
unfolding member_is_sound
seven_line = line_of seven refl

-- 12 at place 1, and at place 2
pub refused_alone : scoring seven alone.book (outputs []) ≡ score_refused 12 1
unfolding low_all in_fen records_earned first_refused first_nonzero any_below refusal_at number_of open_to reserve_open clash_at clashes is_once
refused_alone = sample_scored seven seven_line [] (lit≤ tt) refl own alone

pub refused_behind : scoring seven behind.book (outputs []) ≡ score_refused 12 2
unfolding low_all in_fen records_earned first_refused first_nonzero any_below refusal_at number_of open_to reserve_open clash_at clashes is_once
refused_behind = sample_scored seven seven_line [] (lit≤ tt) refl (trip 3 ∷ own) behind

-- each book has the calls of member 7 that the other has
same_calls_lem : (x : Call) → x.participant ≡ 7 → In x (calls_of alone.book) ↔ In x (calls_of behind.book)
same_calls_lem x p = (λ i. rw behind.calls (there (rw alone.calls at i)), λ i. rw alone.calls (theirs (in-cons (rw behind.calls at i))))
  where
    theirs : (x ≡ trip 3) ⊎ In x own → In x own
    theirs (inl e) = absurd (omega (arith, ap (λ (c : Call). c.participant) e))
    theirs (inr i) = i

years : (header_at alone.book).year ≡ (header_at behind.book).year
years = ap (λ (h : Header). h.year) (alone.header ∙ sym behind.header)

months : (header_at alone.book).month ≡ (header_at behind.book).month
months = ap (λ (h : Header). h.month) (alone.header ∙ sym behind.header)

pub they_agree : Agree 7 alone.book behind.book
they_agree = agree_by_calls 7 alone.book behind.book alone.sound behind.sound years months same_calls_lem

-- where member 7's records begin: at 0, and at 1
record_is : (cs : List Call) (s : Sample cs) (i : ℕ) → i < length cs → record_at s.book i ≡ call_in cs i
unfolding calls_of
record_is cs s i l =
    ap (record_at s.book) (sym (zero-add i)) ∙ sym (in_calls s.book 0 (count_at s.book) i (omega (arith, sample_count cs s))) ∙ ap (λ (ds : List Call). call_in ds i) s.calls

starts_alone : own_start 7 alone.book ≡ 0
unfolding own_start first_own
starts_alone =
    first_hit (own_at 7 (record_at alone.book)) 0 (count_at alone.book) (omega (arith, sample_count own alone)) (first_none _)
    (own_yes 7 (record_at alone.book) 0 (ap (λ (c : Call). c.participant) (record_is own alone 0 (lit< tt))))

starts_behind : own_start 7 behind.book ≡ 1
unfolding own_start first_own
starts_behind =
    first_hit (own_at 7 (record_at behind.book)) 1 (count_at behind.book) (omega (arith, sample_count (trip 3 ∷ own) behind)) (first_of_all _ 1 others)
    (own_yes 7 (record_at behind.book) 1 (ap (λ (c : Call). c.participant) (record_is (trip 3 ∷ own) behind 1 (lit< tt))))
  where
    others : (i : ℕ) → i < 1 → own_at 7 (record_at behind.book) i ≡ 0
    others zero l = own_not 7 (record_at behind.book) 0 (λ e. let d : ◌≡◌ {A = ℕ} 3 7 = sym (ap (λ (c : Call). c.participant) (record_is (trip 3 ∷ own) behind 0 (lit< tt))) ∙ e in omega arith)
    others (suc i) l = absurd (omega arith)

-- counted from there it is record 1 of the member both times
pub from_first_lem : (from_first (own_start 7 alone.book) (scoring seven alone.book (outputs [])) ≡ score_refused 12 1)
    × (from_first (own_start 7 behind.book) (scoring seven behind.book (outputs [])) ≡ score_refused 12 1)
unfolding from_first
from_first_lem = (rw (starts_alone, refused_alone) refl, rw (starts_behind, refused_behind) refl)

-- which is what the theorem says
pub same_from_first : from_first (own_start 7 alone.book) (scoring seven alone.book (outputs [])) ≡ from_first (own_start 7 behind.book) (scoring seven behind.book (outputs []))
same_from_first =
    own_calls_only seven alone.book behind.book (outputs []) alone.sound behind.sound years months same_calls_lem

-- With a series whose value 3 is above the limit: 11 at 3 both times

abbrev spike : List ℕ
spike = outputs (0 ∷ 0 ∷ 0 ∷ 5000001 ∷ [])

spiked : (cs : List Call) (s : Sample cs) → scoring seven s.book spike ≡ score_refused 11 3
spiked cs s =
    sym ((outcome_exact seven s.book spike _).1
    (bad_value 3 refl (record { line = seven_line; book = sound_accepted s.book s.sound }) (outputs_span (0 ∷ 0 ∷ 0 ∷ 5000001 ∷ []) (lit≤ tt) cs s) (lit< tt) before (lit< tt)))
  where
    before : (j : ℕ) → j < 3 → get_or spike j 0 ≤ most_output
    before zero l = lit≤ tt
    before (suc zero) l = lit≤ tt
    before (suc (suc zero)) l = lit≤ tt
    before (suc (suc (suc j))) l = absurd (omega arith)

pub spiked_both : (scoring seven alone.book spike ≡ score_refused 11 3) × (scoring seven behind.book spike ≡ score_refused 11 3)
spiked_both = (spiked own alone, spiked (trip 3 ∷ own) behind)
