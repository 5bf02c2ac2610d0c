-- A member's own records in a book, and a place counted from the first of them. Assumes nothing.
use Rattle.std.specs.Prelude.{◌≡◌, cond, ◌&&◌, List, ℕ, ◌+◌, ◌-◌, ◌<◌, eqb, leb}
use Rattle.call.specs.declared.Call.{Call}
use Rattle.book.specs.Book.{header_at, count_at, record_at}
use Rattle.score.specs.declared.answer.Score.{Score}
use Rattle.score.specs.First.{first_nonzero}
use Rattle.score.specs.Refusing.{first_own}

-- where the member's records begin in a book, or the count
unfoldable pub own_start : ℕ → List ℕ → ℕ
own_start number b = first_own number (record_at b) (count_at b)

-- the member's record k, counted from the first
unfoldable pub own_call : ℕ → List ℕ → ℕ → Call
own_call number b k = record_at b (own_start number b + k)

-- 0 at a record of the member, 1 at others'
unfoldable pub other_at : ℕ → (ℕ → Call) → ℕ → ℕ
other_at number book i = cond (eqb (book i).participant number) 0 1

-- how many records of the member follow each other from the first on
unfoldable pub own_count : ℕ → List ℕ → ℕ
own_count number b = first_nonzero (other_at number (own_call number b)) (count_at b - own_start number b)

-- two books of one month agree on a member's records
pub record Agree (number : ℕ) (b b' : List ℕ) : Type 0 where
  pub year : (header_at b).year ≡ (header_at b').year
  pub month : (header_at b).month ≡ (header_at b').month
  pub count : own_count number b ≡ own_count number b'
  pub calls : (k : ℕ) → k < own_count number b → own_call number b k ≡ own_call number b' k

-- the places of refusals 12 to 14, counted from the member's first record
unfoldable pub from_first : ℕ → Score → Score
from_first first r =
    cond (leb 12 r.number && leb r.number 14)
    (record { number = r.number; place = r.place - first; grains = r.grains; fen = r.fen })
    r
