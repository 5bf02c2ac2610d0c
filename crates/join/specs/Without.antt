-- A tree of joins whose books have lost the record of one key. Assumes nothing.
use Rattle.std.specs.Prelude.{ℕ}
use Rattle.book.specs.Without.{book_without}
use Rattle.join.specs.Trees.{Plan, book, join}

-- the same tree over the books without the record of a key, into the same outputs
unfoldable pub plan_without : ℕ → Plan → Plan
plan_without k (book b) = book (book_without k b)
plan_without k (join l r out) = join (plan_without k l) (plan_without k r) out
