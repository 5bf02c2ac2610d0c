-- Which earlier call stands against a call that scoring refuses with 13. Assumes nothing.
use Rattle.std.specs.Prelude.{cond, List, ℕ}
use Rattle.call.specs.declared.Call.{Call}
use Rattle.book.specs.Book.{record_at}
use Rattle.field.specs.Record.{has_record}
use Rattle.score.specs.First.{first_nonzero}
use Rattle.score.specs.Refusing.{clashes}

-- 1 at a record that stands against x, a call of its member, 0 at any other
unfoldable pub clash_mark : Call → (ℕ → Call) → ℕ → ℕ
clash_mark x book j = cond (clashes x.participant x (book j)) 1 0

-- the first record before record i that stands against it, or i
unfoldable pub clash_with : (ℕ → Call) → ℕ → ℕ
clash_with book i = first_nonzero (clash_mark (book i) book) i

-- the same of any bytes: i, where they have no record i
unfoldable pub clash_place : List ℕ → ℕ → ℕ
clash_place b i = cond (has_record b i) (clash_with (record_at b) i) i
