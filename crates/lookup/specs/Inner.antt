-- What inner contracts speak of, and no sentence of the paper. Assumes nothing.
use Rattle.std.specs.Prelude.{List, ℕ, ◌≤◌, ◌<◌, Option, Some, None}
use Rattle.call.specs.Key.{call_key}
use Rattle.book.specs.Book.{count_at, record_at}

-- a book has the record of an index, where there is one
abbrev pub HasIndex : List ℕ → Option ℕ → Type 0
HasIndex b None = Unit {0}
HasIndex b (Some i) = i < count_at b

-- the records before `low` have lower keys than k, and those from `high` on have not
pub record Parts (b : List ℕ) (k low high : ℕ) : Type 0 where
  pub ordered : (low ≤ high) × (high ≤ count_at b)
  pub below : (i : ℕ) → i < low → call_key (record_at b i) < k
  pub above : (i : ℕ) → high ≤ i → i < count_at b → k ≤ call_key (record_at b i)
