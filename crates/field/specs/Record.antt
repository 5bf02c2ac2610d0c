-- The bad field of a record of a book, of any bytes. Assumes nothing.
use Rattle.std.specs.Prelude.{Bool, cond, ◌&&◌, List, ℕ, ◌+◌, ltb, leb, length, Option, Some, None}
use Rattle.call.specs.Layout.{record_size, reserved_at}
use Rattle.book.specs.Book.{most_keys, place_of, header_at, record_at}
use Rattle.book.specs.Check.{header_minutes}
use Rattle.field.specs.declared.BadRecord.{BadRecord}
use Rattle.field.specs.Field.{bad_field}

-- the bytes have record i, and a book may
unfoldable pub has_record : List ℕ → ℕ → Bool
has_record b i = ltb i most_keys && leb (place_of i + record_size) (length b)

-- record i of a book and its bad field, in the month of its header; none where the bytes have no such record
unfoldable pub bad_record : List ℕ → ℕ → Option BadRecord
bad_record b i =
    cond (has_record b i)
    (Some (record { call = record_at b i; field = bad_field (header_minutes (header_at b)) (record_at b i) (reserved_at b (place_of i)) }))
    None
