-- The cases of both operations come out, and so the conditions of the theorems are met. Assumes nothing.
use mathlib.Core.Path.{◌≡◌, refl, ap}
use mathlib.Core.List.{[]}
use Rattle.le.specs.Le.{le_at, le_bytes, IsBytes}
use Rattle.le.proofs.Laws.{bytes_tested}
use Rattle.units.specs.Month.{is_leap, days_of, minutes_of}
use Rattle.call.specs.Limits.{table, limits_of, limits_allow, call_is_sound}
use Rattle.call.specs.Layout.{call_at, key_bytes, time_bytes, term_bytes, call_bytes}
use Rattle.book.specs.declared.Header.{Header}
use Rattle.book.proofs.Exact.{accepted_exactly}
use Rattle.book.specs.Book.{most_records, header_at, count_at, record_at, calls_from, calls_of, mark_bytes, date_bytes, count_bytes, head_bytes, record_bytes, book_bytes}
use Rattle.book.specs.Check.{accepted, is_marked, is_known, is_versioned, header_is_sound, is_headed, header_minutes, is_record, judge, check_records, check}
use Rattle.book.specs.Without.{without}
use Rattle.rule.specs.Standing.{same_call, decide, given, standing}
use Rattle.rule.specs.Keys.{record_of, also, put, put_all, different_keys, records_at}
use Rattle.rule.specs.Joined.{joined_at, joined_for, join_calls}
use Rattle.pair.specs.Screening.{both_sound, same_month}
use Rattle.join.specs.Turns.{lower_of, lowest_key, placed, turn_for, turn, turns_run, begun, ran}
use Rattle.join.specs.Joining.{key_count, overflow, joined_of, pair_version}
use Rattle.tabs.specs.Tabs.{first_index, own_of, of_state, tabs_of, tab_at, tab_bytes, tabs_bytes, same_tab, fits_at, unfit_from, first_unfit}
use Rattle.tabs.specs.Forward.{replaced, stands_against, settled, forward_count, sum_to, index_by, brought_forward}
use Rattle.tabs.specs.Outcome.{tabs_outcome, tabs_fault, tabling, screen_tabs, rooms_fault, join_tabs_fault, joining_tabs}
use Rattle.tabs.specs.Verdict.{Ready}
use Rattle.tabs.specs.Trees.{Plan, book, join, join_both, result}
use Rattle.join.proofs.Trees.{sound_calls_lem}
use Rattle.tabs.proofs.Bringing.{all_few}
use Rattle.tabs.proofs.Fresh.{unnamed_keep}
use Rattle.tabs.proofs.Trees.{Paged, pages_of_a_tree}
use Rattle.tabs.proofs.Exact.{all_fit}
use Rattle.tabs.specs.Cases.{
  book_of,
  call,
  tab,
  sheet,
  blank,
  seven_before,
  seven_in,
  seven_after,
  seven_page,
  seven_page_after,
  eight_wrong,
  three_before,
  three_after,
  three_page,
  three_page_after,
  turned_away,
  left,
  sevens,
  cases,
  Hold,
}

-- the pages afresh
pub made_afresh : (tabling seven_before (blank 640) ≡ tabs_outcome accepted seven_page) × (tabling seven_after (blank 640) ≡ tabs_outcome accepted seven_page_after)
unfolding
    book_of call tab sheet seven_before seven_after seven_page seven_page_after
    tabling tabs_fault tabs_of first_index own_of of_state tab_bytes tabs_bytes le_at le_bytes
    book_bytes head_bytes mark_bytes date_bytes count_bytes record_bytes call_bytes key_bytes time_bytes term_bytes calls_of calls_from record_at count_at call_at header_at
    check check_records judge is_record header_is_sound is_headed is_versioned is_known most_records is_marked header_minutes minutes_of days_of is_leap call_is_sound limits_allow limits_of table
made_afresh = (refl, refl)

-- every row of the table
pub cases_hold : Hold cases
unfolding
    book_of call tab sheet seven_before seven_in seven_after seven_page seven_page_after eight_wrong three_before three_after three_page three_page_after turned_away left sevens cases
    joining_tabs join_tabs_fault rooms_fault screen_tabs both_sound same_month overflow key_count joined_of pair_version
    first_unfit unfit_from fits_at same_tab tabs_of first_index own_of of_state tab_at tab_bytes tabs_bytes le_at le_bytes
    brought_forward index_by sum_to forward_count settled stands_against replaced record_of also put put_all different_keys records_at joined_at joined_for join_calls
    ran begun turns_run turn turn_for placed lowest_key lower_of without standing given decide same_call
    book_bytes head_bytes mark_bytes date_bytes count_bytes record_bytes call_bytes key_bytes time_bytes term_bytes calls_of calls_from record_at count_at call_at header_at
    check check_records judge is_record header_is_sound is_headed is_versioned is_known most_records is_marked header_minutes minutes_of days_of is_leap call_is_sound limits_allow limits_of table
cases_hold = (refl, (refl, (refl, (refl, (refl, (refl, (refl, (refl, (refl, (refl, tt))))))))))

-- the first row's books, its page and its outputs are as the theorems ask: two sound books of one month and area, and a page that fits the first
first_bytes : IsBytes seven_before
unfolding book_of call seven_before le_bytes book_bytes head_bytes mark_bytes date_bytes count_bytes record_bytes call_bytes key_bytes time_bytes term_bytes
first_bytes = bytes_tested seven_before refl

second_bytes : IsBytes (book_of 5 seven_in)
unfolding book_of call seven_in le_bytes book_bytes head_bytes mark_bytes date_bytes count_bytes record_bytes call_bytes key_bytes time_bytes term_bytes
second_bytes = bytes_tested (book_of 5 seven_in) refl

page_bytes_lem : IsBytes seven_page
unfolding tab sheet seven_page le_bytes tab_bytes tabs_bytes
page_bytes_lem = bytes_tested seven_page refl

tests : (check seven_before ≡ accepted) × (check (book_of 5 seven_in) ≡ accepted) × (header_at seven_before ≡ header_at (book_of 5 seven_in)) × (first_unfit seven_page (calls_of seven_before) ≡ 0)
unfolding
    book_of call tab sheet seven_before seven_in seven_page
    first_unfit unfit_from fits_at same_tab tabs_of first_index own_of of_state tab_at tab_bytes tabs_bytes le_at le_bytes
    book_bytes head_bytes mark_bytes date_bytes count_bytes record_bytes call_bytes key_bytes time_bytes term_bytes calls_of calls_from record_at count_at call_at header_at
    check check_records judge is_record header_is_sound is_headed is_versioned is_known most_records is_marked header_minutes minutes_of days_of is_leap call_is_sound limits_allow limits_of table
tests = (refl, refl, refl, refl)

pub conditions_met : Ready seven_before seven_page (book_of 5 seven_in)
conditions_met =
    record {
      alike =
          record {
            first_sound = (accepted_exactly seven_before first_bytes).0 tests.0;
            second_sound = (accepted_exactly (book_of 5 seven_in) second_bytes).0 tests.1;
            year = ap (λ (h : Header). h.year) tests.2;
            month = ap (λ (h : Header). h.month) tests.2;
            area = ap (λ (h : Header). h.area) tests.2;
          };
      fits = (all_fit seven_page (calls_of seven_before) page_bytes_lem (all_few seven_before tests.0)).0 tests.3;
    }

-- The first row as a tree of one join, accepted: the joined book's page is its own
abbrev pub seven_tree : Plan
seven_tree = join (book seven_before) (book (book_of 5 seven_in)) (blank 112) (blank 640)

tree_accepted : (result seven_tree).number ≡ 0
unfolding
    book_of call tab sheet seven_before seven_in
    result join_both joining_tabs join_tabs_fault rooms_fault screen_tabs both_sound same_month overflow key_count joined_of pair_version
    first_unfit unfit_from fits_at same_tab tabs_of first_index own_of of_state tab_at tab_bytes tabs_bytes le_at le_bytes
    record_of also put put_all different_keys records_at joined_at joined_for join_calls standing given decide same_call
    book_bytes head_bytes mark_bytes date_bytes count_bytes record_bytes call_bytes key_bytes time_bytes term_bytes calls_of calls_from record_at count_at call_at header_at
    check check_records judge is_record header_is_sound is_headed is_versioned is_known most_records is_marked header_minutes minutes_of days_of is_leap call_is_sound limits_allow limits_of table
tree_accepted = refl

pub tree_paged : Paged (result seven_tree)
tree_paged = pages_of_a_tree seven_tree (conditions_met.alike.first_sound, conditions_met.alike.second_sound) tree_accepted

-- No record of the incoming book names member 8, whose counts stay
eight_unnamed : (header_minutes (header_at seven_before) ≡ header_minutes (header_at (book_of 5 seven_in))) × (own_of 8 (calls_of (book_of 5 seven_in)) ≡ [])
unfolding
    book_of call seven_before seven_in own_of le_at le_bytes
    book_bytes head_bytes mark_bytes date_bytes count_bytes record_bytes call_bytes key_bytes time_bytes term_bytes calls_of calls_from record_at count_at call_at header_at header_minutes
    minutes_of days_of is_leap
eight_unnamed = (refl, refl)

pub eight_keeps : (brought_forward (tabs_of (calls_of seven_before)) (calls_of seven_before) (calls_of (book_of 5 seven_in)) 8).count ≡ (tabs_of (calls_of seven_before) 8).count
eight_keeps =
    let x = (sound_calls_lem seven_before conditions_met.alike.first_sound).within in
    let y = (sound_calls_lem (book_of 5 seven_in) conditions_met.alike.second_sound).within in
    (unnamed_keep (header_minutes (header_at (book_of 5 seven_in))) (calls_of seven_before) (calls_of (book_of 5 seven_in)) (rw eight_unnamed.0 at x) y 8 eight_unnamed.1).3
