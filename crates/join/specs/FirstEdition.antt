-- The join of the first edition, letter for letter, as it stood before there was a second version: kept for comparison, and no code cites it. Assumes nothing.
use Rattle.std.specs.Prelude.{Bool, cond, not, ◌&&◌, List, ◌++◌, ℕ, eqb, ltb, length, drop}
use Rattle.call.specs.declared.Call.{Call}
use Rattle.book.specs.declared.Header.{Header}
use Rattle.book.specs.declared.Verdict.{Verdict}
use Rattle.book.specs.Book.{size_of, header_at, calls_of, book_bytes}
use Rattle.book.specs.Check.{refused, accepted}
use Rattle.book.specs.FirstEdition.{version, most_records, check}
use Rattle.rule.specs.Joined.{join_calls}
use Rattle.pair.specs.Screening.{passes, raised}
use Rattle.join.specs.Joining.{keys_of_both}
use Rattle.join.specs.Joining as now

-- what a join leaves: a refusal's number and place, or zeros; the joined book's length; the lent output
pub record JoinOutcome : Type 0 where
  pub number : ℕ
  pub place : ℕ
  pub size : ℕ
  pub out : List ℕ

-- a refusal: number and place, otherwise zeros; the output keeps its contents
abbrev pub join_refused : Verdict → List ℕ → JoinOutcome
join_refused v out = record { number = v.number; place = v.place; size = 0; out = out }

-- accepted: the book stands at the start of the output, and the bytes after it stay
abbrev pub join_wrote : List ℕ → List ℕ → JoinOutcome
join_wrote book out = record { number = 0; place = 0; size = length book; out = book ++ drop (length book) out }

-- first book, second book
unfoldable pub both_sound : List ℕ → List ℕ → Verdict
both_sound first second =
    cond (not (passes (check first))) (check first)
    (cond (not (passes (check second))) (raised (check second))
    accepted)

-- 7: year, month or area differ
unfoldable pub same_month : Header → Header → Bool
same_month h k = eqb h.year k.year && eqb h.month k.month && eqb h.area k.area

-- both books sound, then 7
unfoldable pub screen : List ℕ → List ℕ → Verdict
screen first second =
    cond (not (passes (both_sound first second))) (both_sound first second)
    (cond (not (same_month (header_at first) (header_at second))) (refused 7 0)
    accepted)

-- 8: more than 512 keys; 9: an output too short for so many records
unfoldable pub overflow : ℕ → ℕ → Verdict
overflow keys room =
    cond (ltb (most_records version) keys) (refused 8 0)
    (cond (ltb room (size_of keys)) (refused 9 0)
    accepted)

-- first book, second book, 7, then 8, 9
unfoldable pub join_fault : List ℕ → List ℕ → ℕ → Verdict
join_fault first second room =
    cond (not (passes (screen first second))) (screen first second)
    (overflow (keys_of_both first second) room)

-- the calls of the joined book
unfoldable pub joined_of : List ℕ → List ℕ → List Call
joined_of first second = join_calls (calls_of first) (calls_of second)

-- the joined book stands at the start of the output, and the bytes after it stay; a refusal changes nothing
unfoldable pub joining : List ℕ → List ℕ → List ℕ → JoinOutcome
joining first second out =
    cond (passes (join_fault first second (length out))) (join_wrote (book_bytes version (header_at first) (joined_of first second)) out)
    (join_refused (join_fault first second (length out)) out)

-- for the comparison: what of an outcome of today the first edition told, all but the turns
abbrev pub told_then : now.JoinOutcome → JoinOutcome
told_then o = record { number = o.number; place = o.place; size = o.size; out = o.out }
