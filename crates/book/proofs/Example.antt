-- A book of two calls, worked through: the hypotheses of the theorems on books are met. Assumes nothing.
use mathlib.Core.Path.{◌≡◌, refl}
use mathlib.Core.List.{List, [], ◌∷◌}
use Prim.Native.Nat.{ℕ}
use lib.IntN.{pos, negsuc}
use Rattle.le.specs.Le.{le_at, IsBytes}
use Rattle.le.proofs.Laws.{bytes_tested}
use Rattle.units.specs.Month.{is_leap, days_of, minutes_of}
use Rattle.call.specs.declared.Call.{Call}
use Rattle.call.specs.Limits.{table, limits_of, limits_allow, call_is_sound}
use Rattle.call.specs.Layout.{call_at}
use Rattle.book.specs.Book.{most_records, header_at, count_at, record_at, calls_from, calls_of}
use Rattle.book.specs.Check.{accepted, is_marked, is_known, is_versioned, header_is_sound, is_headed, header_minutes, is_record, judge, check_records, check}
use Rattle.book.specs.Sound.{Sound}
use Rattle.book.proofs.Exact.{accepted_sound}

-- member 7, a start-stop of 4,320 minutes from minute 600 on, call 1001, revision 1
unfoldable pub stop : Call
stop = record { participant = 7; service = 3; state = 0; number = 1001; revision = 1; start = 600; length = 4320; a = pos 0; b = 0; c = 0 }

-- member 9, a primary frequency event of 300 minutes from minute 905 on, call 70,002, revision 2: a −70,000, b 20,123,456, c 1
unfoldable pub event : Call
event = record { participant = 9; service = 8; state = 0; number = 70002; revision = 2; start = 905; length = 300; a = negsuc 69999; b = 20123456; c = 1 }

-- area 5, February 2026, these two records
unfoldable pub bytes : List ℕ
bytes =
    78 ∷ 87 ∷ 66 ∷ 5 ∷ 1 ∷ 0 ∷ 234 ∷ 7 ∷ 2 ∷ 0 ∷ 2 ∷ 0 ∷ 0 ∷ 0 ∷ 0 ∷ 0 ∷
    7 ∷ 0 ∷ 3 ∷ 0 ∷ 233 ∷ 3 ∷ 0 ∷ 0 ∷ 1 ∷ 0 ∷ 0 ∷ 0 ∷ 88 ∷ 2 ∷ 224 ∷ 16 ∷ 0 ∷ 0 ∷ 0 ∷ 0 ∷ 0 ∷ 0 ∷ 0 ∷ 0 ∷ 0 ∷ 0 ∷ 0 ∷ 0 ∷ 0 ∷ 0 ∷ 0 ∷ 0 ∷
    9 ∷ 0 ∷ 8 ∷ 0 ∷ 114 ∷ 17 ∷ 1 ∷ 0 ∷ 2 ∷ 0 ∷ 0 ∷ 0 ∷ 137 ∷ 3 ∷ 44 ∷ 1 ∷ 144 ∷ 238 ∷ 254 ∷ 255 ∷ 64 ∷ 15 ∷ 51 ∷ 1 ∷ 1 ∷ 0 ∷ 0 ∷ 0 ∷ 0 ∷ 0 ∷ 0 ∷ 0 ∷ []

is_bytes : IsBytes bytes
unfolding bytes
is_bytes = bytes_tested bytes refl

is_accepted_lem : check bytes ≡ accepted
unfolding
    bytes check check_records judge is_record header_is_sound is_headed is_versioned is_known most_records is_marked header_minutes minutes_of days_of is_leap
    header_at count_at record_at call_at le_at call_is_sound limits_allow limits_of table
is_accepted_lem = refl

pub is_sound_lem : Sound bytes
is_sound_lem = (accepted_sound bytes is_bytes is_accepted_lem).0

pub its_calls : calls_of bytes ≡ stop ∷ event ∷ []
unfolding bytes stop event calls_of calls_from count_at record_at call_at le_at
its_calls = refl
