-- Two small books, byte by byte, and where three calls lie in them. Assumes nothing.
use mathlib.Core.Path.{◌≡◌, refl}
use mathlib.Core.List.{List, [], ◌∷◌}
use Prim.Native.Nat.{ℕ}
use lib.ListN.{take, drop}
use Rattle.le.specs.Le.{le_at}
use Rattle.units.specs.Month.{is_leap, days_of, minutes_of}
use Rattle.call.specs.Limits.{table, limits_of, limits_allow, call_is_sound}
use Rattle.call.specs.Layout.{call_at}
use Rattle.book.specs.Book.{most_records, header_at, count_at, record_at, calls_from, calls_of}
use Rattle.book.specs.Check.{is_marked, is_known, is_versioned, header_is_sound, is_headed, header_minutes, is_record, judge, check_records, check}
use Rattle.rule.specs.Standing.{decide}
use Rattle.pair.specs.Screening.{both_sound, same_month, screen}
use Rattle.lookup.specs.declared.Place.TheVariants.{Nowhere, InFirst, InSecond}
use Rattle.lookup.specs.Lookup.{index_from, index_of, stands_at, choose, which}

-- area 5, February 2026, two start-stops: call 5 of member 2, call 1001 of member 7
unfoldable pub first : List ℕ
first =
    78 ∷ 87 ∷ 66 ∷ 5 ∷ 1 ∷ 0 ∷ 234 ∷ 7 ∷ 2 ∷ 0 ∷ 2 ∷ 0 ∷ 0 ∷ 0 ∷ 0 ∷ 0 ∷
    2 ∷ 0 ∷ 3 ∷ 0 ∷ 5 ∷ 0 ∷ 0 ∷ 0 ∷ 1 ∷ 0 ∷ 0 ∷ 0 ∷ 88 ∷ 2 ∷ 224 ∷ 16 ∷ 0 ∷ 0 ∷ 0 ∷ 0 ∷ 0 ∷ 0 ∷ 0 ∷ 0 ∷ 0 ∷ 0 ∷ 0 ∷ 0 ∷ 0 ∷ 0 ∷ 0 ∷ 0 ∷
    7 ∷ 0 ∷ 3 ∷ 0 ∷ 233 ∷ 3 ∷ 0 ∷ 0 ∷ 1 ∷ 0 ∷ 0 ∷ 0 ∷ 88 ∷ 2 ∷ 224 ∷ 16 ∷ 0 ∷ 0 ∷ 0 ∷ 0 ∷ 0 ∷ 0 ∷ 0 ∷ 0 ∷ 0 ∷ 0 ∷ 0 ∷ 0 ∷ 0 ∷ 0 ∷ 0 ∷ 0 ∷ []

-- the same month and area: call 9 of member 3, and call 1001 of member 7 withdrawn
unfoldable pub second : List ℕ
second =
    78 ∷ 87 ∷ 66 ∷ 5 ∷ 1 ∷ 0 ∷ 234 ∷ 7 ∷ 2 ∷ 0 ∷ 2 ∷ 0 ∷ 0 ∷ 0 ∷ 0 ∷ 0 ∷
    3 ∷ 0 ∷ 3 ∷ 0 ∷ 9 ∷ 0 ∷ 0 ∷ 0 ∷ 1 ∷ 0 ∷ 0 ∷ 0 ∷ 88 ∷ 2 ∷ 224 ∷ 16 ∷ 0 ∷ 0 ∷ 0 ∷ 0 ∷ 0 ∷ 0 ∷ 0 ∷ 0 ∷ 0 ∷ 0 ∷ 0 ∷ 0 ∷ 0 ∷ 0 ∷ 0 ∷ 0 ∷
    7 ∷ 0 ∷ 0 ∷ 2 ∷ 233 ∷ 3 ∷ 0 ∷ 0 ∷ 1 ∷ 0 ∷ 0 ∷ 0 ∷ 0 ∷ 0 ∷ 0 ∷ 0 ∷ 0 ∷ 0 ∷ 0 ∷ 0 ∷ 0 ∷ 0 ∷ 0 ∷ 0 ∷ 0 ∷ 0 ∷ 0 ∷ 0 ∷ 0 ∷ 0 ∷ 0 ∷ 0 ∷ []

-- record 1 of the second book, record 0 of the first, neither
pub places : (which first second 7 1001 ≡ InSecond 1) × (which first second 2 5 ≡ InFirst 0) × (which first second 7 1002 ≡ Nowhere)
unfolding
    first second screen both_sound same_month check check_records judge is_record header_is_sound is_headed is_versioned is_known most_records is_marked header_minutes minutes_of days_of is_leap
    header_at count_at record_at call_at le_at call_is_sound limits_allow limits_of table
    which choose stands_at index_of index_from calls_of calls_from decide
places = (refl, refl, refl)

-- what lies there: member 7, withdrawn, call 1001; member 2, a live start-stop, call 5
pub there : (take 8 (drop 48 second) ≡ 7 ∷ 0 ∷ 0 ∷ 2 ∷ 233 ∷ 3 ∷ 0 ∷ 0 ∷ []) × (take 8 (drop 16 first) ≡ 2 ∷ 0 ∷ 3 ∷ 0 ∷ 5 ∷ 0 ∷ 0 ∷ 0 ∷ [])
unfolding first second
there = (refl, refl)
