-- The three books of the story, turn by turn: they meet the hypotheses of what is promised of a run, of a chain and of a tree. Assumes nothing.
use mathlib.Core.Path.{◌≡◌, refl, sym, ◌∙◌, ap}
use mathlib.Core.Bool.{Bool, true, ◌&&◌}
use mathlib.Core.Logic.{⊎_elim}
use mathlib.Core.List.Memᴰ.{cases_cons as in-cons}
use mathlib.Core.List.Memᴰ.{not-nil as in-nil}
use mathlib.Core.List.{List, [], ◌∷◌, map, Memᴰ as In}
use native.Mathlib.Omega.{arith}
use lib.Dec.{eqb}
use lib.ListN.{length, take}
use borrow.Author.Tests.{eqb-true}
use Rattle.le.proofs.Tests.{each}
use Rattle.call.specs.Key.{call_key}
use Rattle.book.specs.declared.Header.{Header}
use Rattle.le.specs.Le.{le_at, le_bytes}
use Rattle.units.specs.Month.{is_leap, days_of, minutes_of}
use Rattle.call.specs.Limits.{table, limits_of, limits_allow, call_is_sound}
use Rattle.call.specs.Layout.{call_at, key_bytes, time_bytes, term_bytes, call_bytes}
use Rattle.book.specs.Book.{most_records, header_at, count_at, record_at, calls_from, calls_of, mark_bytes, date_bytes, count_bytes, head_bytes, record_bytes, book_bytes}
use Rattle.book.specs.Check.{is_marked, is_known, is_versioned, header_is_sound, is_headed, header_minutes, is_record, judge, check_records, check}
use Rattle.book.specs.Write.{sound_calls, write_fault, writing}
use Rattle.book.specs.Without.{without}
use Rattle.rule.specs.Standing.{same_call, decide, given, standing}
use Rattle.rule.specs.Keys.{record_of, also, put, put_all, different_keys, records_at}
use Rattle.rule.specs.Joined.{joined_at, joined_for, join_calls}
use Rattle.pair.specs.Screening.{both_sound, same_month, screen}
use Rattle.join.specs.Turns.{lower_of, lowest_key, placed, turn_for, turn, turns_run, begun, ran}
use Rattle.join.specs.Joining.{JoinOutcome, key_count, overflow, joined_of, pair_version, join_sound, joining}
use Rattle.join.specs.Chain.{Link, chain, empty_book, turns_of, keys_up_to}
use Rattle.join.specs.Trees.{result}
use Rattle.join.specs.Verdict.{Joinable}
use Rattle.join.proofs.Turning.{after_turns, lowest_first, written_once, run_ends, joinable_accepted, turns_are_keys}
use Rattle.join.proofs.Chains.{last_turns, chain_turns_lem}
use Rattle.join.proofs.Story.{march, stop, entered, early, withdrawal, entered_within, withdrawal_within, one, one_sound, one_reads, plant, head_office, spare, three}
use Rattle.join.proofs.Story.{one_month, plant_and_office, all_three, output, output_long, left, left_covers, left_book}

-- The plant's book and head office's: one key, one turn

pub two_joinable : Joinable plant head_office output
unfolding plant head_office
two_joinable =
    let h = (one_reads entered entered_within).0 ∙ sym (one_reads withdrawal withdrawal_within).0 in
    record {
      alike =
          record {
            first_sound = one_sound entered entered_within;
            second_sound = one_sound withdrawal withdrawal_within;
            year = ap (λ (k : Header). k.year) h;
            month = ap (λ (k : Header). k.month) h;
            area = ap (λ (k : Header). k.area) h;
          };
      few = omega (arith, plant_and_office);
      room = omega (arith, plant_and_office, output_long);
    }

-- after it one turn is counted, the key written is the lowest, no byte is added, and no call is left
pub one_turn : (turns_run 1 (begun plant head_office output)).turns ≡ 1
one_turn = (after_turns plant head_office output two_joinable 1 (omega (arith, plant_and_office))).1

pub lowest_written : map call_key (calls_from (turns_run 1 (begun plant head_office output)).out 0 1) ≡ take 1 (different_keys (calls_of plant ∷ calls_of head_office ∷ []))
lowest_written = (lowest_first plant head_office output two_joinable 1 (omega (arith, plant_and_office))).0

pub as_long : length (turns_run 1 (begun plant head_office output)).out ≡ length (turns_run 0 (begun plant head_office output)).out
as_long = (written_once plant head_office output two_joinable 0 (omega (arith, plant_and_office))).2

pub none_left : (ran plant head_office output).first ≡ []
none_left = (run_ends plant head_office output two_joinable).0

pub two_turns : (joining plant head_office output).turns ≡ 1
two_turns = (turns_are_keys plant head_office output (joinable_accepted plant head_office output two_joinable)).0 ∙ plant_and_office

-- the last join of a tree over all three
pub left_turns : (result left).turns ≡ 1
unfolding left three
left_turns = last_turns march three one_month _ _ _ left_covers left_book.1 ∙ all_three

-- A chain of the three from an empty book: each join is accepted, and its turns are the different keys up to its book

abbrev links : List Link
links = record { book = plant; out = output } ∷ record { book = head_office; out = output } ∷ record { book = spare; out = output } ∷ []

none_refused : List JoinOutcome → Bool
none_refused [] = true
none_refused (o ∷ os) = eqb o.number 0 && none_refused os

each_accepted : (os : List JoinOutcome) → none_refused os ≡ true → (o : JoinOutcome) → In o os → o.number ≡ 0
unfolding none_refused
each_accepted [] e o i = absurd (in-nil i)
each_accepted (p ∷ os) e o i =
    let t = each (eqb p.number 0) (none_refused os ∷ []) e in
    ⊎_elim (λ (q : o ≡ p). ap (λ (x : JoinOutcome). x.number) q ∙ eqb-true p.number 0 t.0) (λ j. each_accepted os t.1.0 o j) (in-cons i)

chain_accepted : none_refused (chain (empty_book march output) links) ≡ true
unfolding
    none_refused empty_book chain joining join_sound pair_version joined_of overflow key_count
    ran begun turns_run turn turn_for placed lowest_key lower_of screen same_month both_sound join_calls joined_for joined_at records_at different_keys put_all put also record_of
    standing given decide same_call without writing write_fault sound_calls check check_records judge is_record header_minutes is_headed header_is_sound is_versioned is_known is_marked
    book_bytes record_bytes head_bytes count_bytes date_bytes mark_bytes calls_of calls_from record_at count_at header_at most_records call_bytes term_bytes time_bytes key_bytes call_at
    call_is_sound limits_allow limits_of table minutes_of days_of is_leap le_at le_bytes
    plant head_office spare one entered early withdrawal stop march output
chain_accepted = refl

empty_written : (writing march [] output).number ≡ 0
unfolding writing write_fault sound_calls header_is_sound header_minutes minutes_of days_of is_leap march output
empty_written = refl

pub chain_of_three : turns_of (chain (empty_book march output) links) ≡ keys_up_to [] three
unfolding three
chain_of_three = (chain_turns_lem march output links empty_written one_month (each_accepted (chain (empty_book march output) links) chain_accepted)).0
