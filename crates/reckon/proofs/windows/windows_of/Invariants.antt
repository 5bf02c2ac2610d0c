use mathlib.Core.Path.{◌≡◌}
use lib.ListN.{length, take}
use Rattle.book.specs.Book.{most_keys, record_at}
use Rattle.reckon.specs.Inner.{places_of}
use Rattle.reckon.proofs.windows.windows_of.Given as goal

abbrev pub invariant-loop-i : goal.invariant-loop-i
invariant-loop-i l =
    (take l.count l.at ≡ places_of l.member l.service (record_at l.b) l.i)
    × (l.count ≡ length (places_of l.member l.service (record_at l.b) l.i))
    × (length l.at ≡ most_keys)
