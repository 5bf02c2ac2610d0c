-- Calls, and a book, without the record of one key. Assumes nothing.
use Rattle.std.specs.Prelude.{cond, List, [], ◌∷◌, ℕ, eqb}
use Rattle.call.specs.declared.Call.{Call}
use Rattle.call.specs.Key.{call_key}
use Rattle.book.specs.Book.{version_at, header_at, calls_of, book_bytes}

-- the calls of other keys
unfoldable pub without : ℕ → List Call → List Call
without k [] = []
without k (c ∷ cs) = cond (eqb (call_key c) k) (without k cs) (c ∷ without k cs)

-- the book of the same version, month and area without the record of a key
unfoldable pub book_without : ℕ → List ℕ → List ℕ
book_without k b = book_bytes (version_at b) (header_at b) (without k (calls_of b))
