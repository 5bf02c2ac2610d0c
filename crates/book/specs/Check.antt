-- The check of a book, in the paper's order: 1 (under 16 bytes), 2, 3, 4, 1 (length), then record by record 5, 6. Assumes nothing.
use Rattle.std.specs.Prelude.{Bool, cond, not, ◌&&◌, ◌||◌, List, ℕ, zero, suc, eqb, ltb, leb, get_or, length}
use Rattle.le.specs.Le.{le_at}
use Rattle.units.specs.Month.{months_per_year, minutes_of}
use Rattle.call.specs.Key.{call_key}
use Rattle.call.specs.Limits.{call_is_sound}
use Rattle.call.specs.Layout.{reserved_at}
use Rattle.book.specs.declared.Header.{Header}
use Rattle.book.specs.declared.Opened.{Opened}
use Rattle.book.specs.declared.RecordTurn.{RecordTurn}
use Rattle.book.specs.declared.Verdict.{Verdict}
use Rattle.book.specs.Book.{first_version, second_version, most_records, header_size, size_of, place_of, most_area, first_year, last_year, version_at, header_at, count_at, record_at}

-- a refusal gives number and place; accepted, both are 0
abbrev pub refused : ℕ → ℕ → Verdict
refused number place = record { number = number; place = place }

abbrev pub accepted : Verdict
accepted = refused 0 0

-- 2: the mark "NWB"
unfoldable pub is_marked : List ℕ → Bool
is_marked b = eqb (get_or b 0 0) 78 && eqb (get_or b 1 0) 87 && eqb (get_or b 2 0) 66

-- 3: a version that is read
unfoldable pub is_known : ℕ → Bool
is_known v = eqb v first_version || eqb v second_version

unfoldable pub is_versioned : List ℕ → Bool
is_versioned b = is_known (version_at b)

-- 4: area 1 to 99, year 2024 to 2099, month 1 to 12
unfoldable pub header_is_sound : Header → Bool
header_is_sound h =
    leb 1 h.area
    && leb h.area most_area
    && leb first_year h.year
    && leb h.year last_year
    && leb 1 h.month
    && leb h.month months_per_year

-- 4: that, a zero byte, a count that the version allows, four zero bytes
unfoldable pub is_headed : List ℕ → Bool
is_headed b = header_is_sound (header_at b) && eqb (le_at b 9 1) 0 && leb (count_at b) (most_records (version_at b)) && eqb (le_at b 12 4) 0

-- the minutes of a header's month
unfoldable pub header_minutes : Header → ℕ
header_minutes h = minutes_of h.year h.month

-- 5: the fields of record i and its four last bytes, in a month of so many minutes
unfoldable pub is_record : ℕ → List ℕ → ℕ → Bool
is_record minutes b i = call_is_sound minutes (record_at b i) && eqb (reserved_at b (place_of i)) 0

-- 5, 6 or 0 of record i, whose key has to be `low` or above
unfoldable pub judge : ℕ → List ℕ → ℕ → ℕ → ℕ
judge minutes b low i = cond (not (is_record minutes b i)) 5 (cond (ltb (call_key (record_at b i)) low) 6 0)

-- the lowest key that the record after record i may have
abbrev pub next_at : List ℕ → ℕ → ℕ
next_at b i = suc (call_key (record_at b i))

-- the turn of record i: its number, and the lowest key of the next one
abbrev pub turn_at : ℕ → List ℕ → ℕ → ℕ → RecordTurn
turn_at minutes b low i = record { number = judge minutes b low i; low = next_at b i }

-- so many records in turn, from record i on; each key has to be above the one before
unfoldable pub check_records : ℕ → List ℕ → ℕ → ℕ → ℕ → Verdict
check_records minutes b low i zero = accepted
check_records minutes b low i (suc left) =
    cond (eqb (judge minutes b low i) 0) (check_records minutes b (next_at b i) (suc i) left) (refused (judge minutes b low i) i)

unfoldable pub check : List ℕ → Verdict
check b =
    cond (ltb (length b) header_size) (refused 1 0)
    (cond (not (is_marked b)) (refused 2 0)
    (cond (not (is_versioned b)) (refused 3 0)
    (cond (not (is_headed b)) (refused 4 0)
    (cond (not (eqb (length b) (size_of (count_at b)))) (refused 1 0)
    (check_records (header_minutes (header_at b)) b 0 0 (count_at b))))))

-- The header of a book, of any bytes

-- a refusal gives number and place, otherwise zeros
abbrev pub turned_away : Verdict → Opened
turned_away v = record { number = v.number; place = v.place; version = 0; header = record { area = 0; year = 0; month = 0 }; calls = 0 }

-- accepted: the version, whose month the book is of, and how many calls it has
unfoldable pub header_of : List ℕ → Opened
header_of b =
    cond (eqb (check b).number 0) (record { number = 0; place = 0; version = version_at b; header = header_at b; calls = count_at b })
    (turned_away (check b))
