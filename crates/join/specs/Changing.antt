-- Entering, revising and withdrawing as the desk does it: a book of one record is written and joined in. Assumes nothing.
use Rattle.std.specs.Prelude.{◌≡◌, cond, ◌≢◌, List, [], ◌∷◌, ℕ, suc, max, ◌<◌, ◌≤◌, eqb, length, take}
use Rattle.std.proofs.Math.Option.{Option, none, some}
use Rattle.call.specs.declared.Call.{Call}
use Rattle.call.specs.Key.{call_key}
use Rattle.call.specs.Service.{CallWithin}
use Rattle.book.specs.Book.{most_keys, size_of, header_at, count_at, calls_of}
use Rattle.book.specs.Check.{refused, header_minutes}
use Rattle.book.specs.Write.{BookOutcome, writing}
use Rattle.rule.specs.Standing.{is_withdrawn}
use Rattle.rule.specs.Keys.{record_of}
use Rattle.join.specs.Joining.{JoinOutcome, join_refused, joining}
use Rattle.join.specs.Trees.{written}

-- a book joined with the book that a writing has left; a refused writing ends it
unfoldable pub join_written : List ℕ → BookOutcome → List ℕ → JoinOutcome
join_written book one out = cond (eqb one.number 0) (joining book (take one.size one.out) out) (join_refused (refused one.number one.place) out)

-- the call as a book of one, of the book's month and area, written into a page, and joined with the book into an output
unfoldable pub changing : List ℕ → Call → List ℕ → List ℕ → JoinOutcome
changing book w page out = join_written book (writing (header_at book) (w ∷ []) page) out

-- the record that the changed book has for a key
abbrev pub record_after : List ℕ → Call → List ℕ → List ℕ → ℕ → Option Call
record_after book w page out k = record_of k (calls_of (written (changing book w page out)))

-- the key is one of the book's, or the book has fewer calls than any book may have, and the output has room for the calls that there are then
pub data Fits (book : List ℕ) (w : Call) (out : List ℕ) : Type 0 where
  had : record_of (call_key w) (calls_of book) ≢ none → size_of (count_at book) ≤ length out → Fits book w out
  new : record_of (call_key w) (calls_of book) ≡ none → count_at book < most_keys → size_of (suc (count_at book)) ≤ length out → Fits book w out

-- what a change asks: a call within the limits of the month, a page for a book of one, and that it fits
pub record Changeable (book : List ℕ) (w : Call) (page out : List ℕ) : Type 0 where
  pub within : CallWithin (header_minutes (header_at book)) w
  pub page_long : size_of 1 ≤ length page
  pub fits : Fits book w out

-- a withdrawal has its own revision, and where the call was withdrawn already the higher of the two
unfoldable pub withdrawn_revision : Option Call → Call → ℕ
withdrawn_revision none w = w.revision
withdrawn_revision (some x) w = cond (is_withdrawn x) (max x.revision w.revision) w.revision
