-- Joins of a few records: the definitions answer as was worked out. Assumes nothing.
use mathlib.Core.Path.{◌≡◌, refl}
use mathlib.Core.Bool.{true}
use Rattle.le.specs.Le.{le_at, le_bytes}
use Rattle.units.specs.Month.{is_leap, days_of, minutes_of}
use Rattle.call.specs.Limits.{table, limits_of, limits_allow, call_is_sound}
use Rattle.call.specs.Layout.{call_at, key_bytes, time_bytes, term_bytes, call_bytes}
use Rattle.book.specs.Book.{most_records, header_at, count_at, record_at, calls_from, calls_of, mark_bytes, date_bytes, count_bytes, head_bytes, record_bytes, book_bytes}
use Rattle.book.specs.Check.{is_marked, is_known, is_versioned, header_is_sound, is_headed, header_minutes, is_record, judge, check_records, check}
use Rattle.book.specs.Write.{sound_calls, write_fault, writing}
use Rattle.book.specs.Without.{without}
use Rattle.rule.specs.Standing.{same_call, decide, given, standing}
use Rattle.rule.specs.Keys.{record_of, also, put, put_all, different_keys, records_at}
use Rattle.rule.specs.Joined.{joined_at, joined_for, join_calls}
use Rattle.pair.specs.Screening.{both_sound, same_month, screen}
use Rattle.join.specs.Turns.{lower_of, lowest_key, placed, turn_for, turn, turns_run, begun, ran}
use Rattle.join.specs.Joining.{key_count, overflow, joined_of, pair_version, join_sound, joining}
use Rattle.join.specs.Chain.{chain, empty_book, sum, most_turns}
use Rattle.join.specs.TurnCases.{turn_cases, same_numbers, same_calls, tells, stands_from, chain_turns, answers_as, all_answer}

pub turn_cases_lem : all_answer turn_cases ≡ true
unfolding
    all_answer answers_as chain_turns stands_from tells same_calls same_numbers most_turns sum empty_book chain joining join_sound pair_version joined_of overflow key_count
    ran begun turns_run turn turn_for placed lowest_key lower_of screen same_month both_sound join_calls joined_for joined_at records_at different_keys put_all put also record_of
    standing given decide same_call without writing write_fault sound_calls check check_records judge is_record header_minutes is_headed header_is_sound is_versioned is_known is_marked
    book_bytes record_bytes head_bytes count_bytes date_bytes mark_bytes calls_of calls_from record_at count_at header_at most_records call_bytes term_bytes time_bytes key_bytes call_at
    call_is_sound limits_allow limits_of table minutes_of days_of is_leap le_at le_bytes
turn_cases_lem = refl
