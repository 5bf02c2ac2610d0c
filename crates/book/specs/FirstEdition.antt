-- The check of the first edition, letter for letter, as it stood before there was a second version: kept for comparison, and no code cites it. Assumes nothing.
use Rattle.std.specs.Prelude.{Bool, cond, not, ◌&&◌, List, ℕ, zero, suc, eqb, ltb, leb, get_or, length}
use Rattle.le.specs.Le.{le_at}
use Rattle.units.specs.Month.{months_per_year, minutes_of}
use Rattle.call.specs.Key.{call_key}
use Rattle.call.specs.Limits.{call_is_sound}
use Rattle.call.specs.Layout.{reserved_at}
use Rattle.book.specs.declared.Header.{Header}
use Rattle.book.specs.declared.Verdict.{Verdict}
use Rattle.book.specs.Book.{header_size, size_of, place_of, most_area, first_year, last_year, version_at, header_at, count_at, record_at}
use Rattle.book.specs.Check.{refused, accepted}

-- the one version there is
abbrev pub version : ℕ
version = 1

-- the most records that a book of a version has: 512, and there is no version but the first
abbrev pub most_records : ℕ → ℕ
most_records v = 512

-- 2: the mark "NWB"
unfoldable pub is_marked : List ℕ → Bool
is_marked b = eqb (get_or b 0 0) 78 && eqb (get_or b 1 0) 87 && eqb (get_or b 2 0) 66

-- 3: the version
unfoldable pub is_versioned : List ℕ → Bool
is_versioned b = eqb (version_at b) version

-- 4: area 1 to 99, year 2024 to 2099, month 1 to 12
unfoldable pub header_is_sound : Header → Bool
header_is_sound h =
    leb 1 h.area
    && leb h.area most_area
    && leb first_year h.year
    && leb h.year last_year
    && leb 1 h.month
    && leb h.month months_per_year

-- 4: that, a zero byte, a count that the version allows, four zero bytes
unfoldable pub is_headed : List ℕ → Bool
is_headed b = header_is_sound (header_at b) && eqb (le_at b 9 1) 0 && leb (count_at b) (most_records (version_at b)) && eqb (le_at b 12 4) 0

-- the minutes of a header's month
unfoldable pub header_minutes : Header → ℕ
header_minutes h = minutes_of h.year h.month

-- 5: the fields of record i and its four last bytes, in a month of so many minutes
unfoldable pub is_record : ℕ → List ℕ → ℕ → Bool
is_record minutes b i = call_is_sound minutes (record_at b i) && eqb (reserved_at b (place_of i)) 0

-- 5, 6 or 0 of record i, whose key has to be `low` or above
unfoldable pub judge : ℕ → List ℕ → ℕ → ℕ → ℕ
judge minutes b low i = cond (not (is_record minutes b i)) 5 (cond (ltb (call_key (record_at b i)) low) 6 0)

-- the lowest key that the record after record i may have
abbrev pub next_at : List ℕ → ℕ → ℕ
next_at b i = suc (call_key (record_at b i))

-- so many records in turn, from record i on; each key has to be above the one before
unfoldable pub check_records : ℕ → List ℕ → ℕ → ℕ → ℕ → Verdict
check_records minutes b low i zero = accepted
check_records minutes b low i (suc left) =
    cond (eqb (judge minutes b low i) 0) (check_records minutes b (next_at b i) (suc i) left) (refused (judge minutes b low i) i)

unfoldable pub check : List ℕ → Verdict
check b =
    cond (ltb (length b) header_size) (refused 1 0)
    (cond (not (is_marked b)) (refused 2 0)
    (cond (not (is_versioned b)) (refused 3 0)
    (cond (not (is_headed b)) (refused 4 0)
    (cond (not (eqb (length b) (size_of (count_at b)))) (refused 1 0)
    (check_records (header_minutes (header_at b)) b 0 0 (count_at b))))))
