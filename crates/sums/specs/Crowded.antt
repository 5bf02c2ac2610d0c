-- One call more than a book may have: a full book and a book of one call, of one month and area. Assumes nothing.
use Rattle.std.specs.Prelude.{List, [], ◌∷◌, ℕ, zero, suc, pos, replicate}
use Rattle.call.specs.declared.Call.{Call}
use Rattle.call.specs.Revising.{withdrawn}
use Rattle.book.specs.declared.Header.{Header}
use Rattle.book.specs.Book.{first_version, second_version, most_keys, size_of, book_bytes}
use Rattle.join.specs.Trees.{Plan, book, join}

-- January 2026, area 1
unfoldable pub january : Header
january = record { area = 1; year = 2026; month = 1 }

-- a call of member 1, withdrawn at revision 1
abbrev pub gone : ℕ → Call
gone number =
    record { participant = 1; service = 0; state = withdrawn; number = number; revision = 1; start = 0; length = 0; a = pos 0; b = 0; c = 0 }

-- so many calls, numbered from a number on
unfoldable pub numbered : ℕ → ℕ → List Call
numbered number zero = []
numbered number (suc n) = gone number ∷ numbered (suc number) n

-- calls 0 to 1,999
unfoldable pub many_calls : List Call
many_calls = numbered 0 2000

-- call 2,000
unfoldable pub last_call : List Call
last_call = numbered 2000 1

-- the two books
unfoldable pub full : List ℕ
full = book_bytes second_version january many_calls

unfoldable pub one_more : List ℕ
one_more = book_bytes first_version january last_call

unfoldable pub crowd : List (List ℕ)
crowd = full ∷ one_more ∷ []

-- an output with room for every book
unfoldable pub output : List ℕ
output = replicate (size_of most_keys) 0

-- the full book and the one call; the one call and twice the full book
unfoldable pub two : Plan
two = join (book full) (book one_more) output

unfoldable pub three : Plan
three = join (book one_more) (join (book full) (book full) output) output
