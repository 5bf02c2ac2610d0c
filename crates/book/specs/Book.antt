-- The call book: sixteen header bytes, then 32 for each call. Assumes nothing.
use Rattle.std.specs.Prelude.{cond, List, [], ◌∷◌, ◌++◌, ℕ, zero, suc, ◌+◌, ◌*◌, ◌≤◌, eqb, length}
use Rattle.le.specs.Le.{le_at, le_bytes}
use Rattle.call.specs.declared.Call.{Call}
use Rattle.call.specs.Layout.{record_size, call_at, call_bytes}
use Rattle.book.specs.declared.Header.{Header}

-- the versions of a book: the first, which the writers write, and the second
abbrev pub first_version : ℕ
first_version = 1

abbrev pub second_version : ℕ
second_version = 2

-- the most records that a book of a version has: 512 of the first, 2,000 of the second
unfoldable pub most_records : ℕ → ℕ
most_records v = cond (eqb v first_version) 512 2000

-- the most records that any book has: so many different keys a join gives, and no more
abbrev pub most_keys : ℕ
most_keys = 2000

-- the header is 16 bytes
abbrev pub header_size : ℕ
header_size = 16

-- the book's length in bytes is exactly 16 + 32 × count
abbrev pub size_of : ℕ → ℕ
size_of count = header_size + record_size * count

-- record i lies behind the records before it
abbrev pub place_of : ℕ → ℕ
place_of i = size_of i

-- the bytes have a header
abbrev pub HasHeader : List ℕ → Type 0
HasHeader b = header_size ≤ length b

-- the bytes have record i
abbrev pub HasRecord : List ℕ → ℕ → Type 0
HasRecord b i = place_of i + record_size ≤ length b

-- area is 1 to 99, year 2024 to 2099
abbrev pub most_area : ℕ
most_area = 99

abbrev pub first_year : ℕ
first_year = 2024

abbrev pub last_year : ℕ
last_year = 2099

-- Reading: what the bytes say

-- version u16 at 4
abbrev pub version_at : List ℕ → ℕ
version_at b = le_at b 4 2

-- area u8 at 3, year u16 at 6, month u8 at 8
unfoldable pub header_at : List ℕ → Header
header_at b = record { area = le_at b 3 1; year = le_at b 6 2; month = le_at b 8 1 }

-- count u16 at 10
unfoldable pub count_at : List ℕ → ℕ
count_at b = le_at b 10 2

-- record i
unfoldable pub record_at : List ℕ → ℕ → Call
record_at b i = call_at b (place_of i)

-- so many records, from record i on
unfoldable pub calls_from : List ℕ → ℕ → ℕ → List Call
calls_from b i zero = []
calls_from b i (suc left) = record_at b i ∷ calls_from b (suc i) left

unfoldable pub calls_of : List ℕ → List Call
calls_of b = calls_from b 0 (count_at b)

-- Writing: mark "NWB" and area; version, year, month and a zero byte; count and four zero bytes

unfoldable pub mark_bytes : Header → List ℕ
mark_bytes h = 78 ∷ 87 ∷ 66 ∷ [] ++ le_bytes 1 h.area

unfoldable pub date_bytes : ℕ → Header → List ℕ
date_bytes v h = le_bytes 2 v ++ le_bytes 2 h.year ++ le_bytes 1 h.month ++ le_bytes 1 0

unfoldable pub count_bytes : ℕ → List ℕ
count_bytes n = le_bytes 2 n ++ le_bytes 4 0

unfoldable pub head_bytes : ℕ → Header → ℕ → List ℕ
head_bytes v h n = mark_bytes h ++ date_bytes v h ++ count_bytes n

unfoldable pub record_bytes : List Call → List ℕ
record_bytes [] = []
record_bytes (c ∷ cs) = call_bytes c ++ record_bytes cs

-- the book of a version, a header and calls
unfoldable pub book_bytes : ℕ → Header → List Call → List ℕ
book_bytes v h cs = head_bytes v h (length cs) ++ record_bytes cs
