-- Joining two books of bytes: the first book's refusals, the second's, 7, 8, 9, else the joined book. Assumes nothing.
use Rattle.std.specs.Prelude.{Bool, cond, ◌&&◌, List, [], ◌∷◌, ◌++◌, map, ℕ, eqb, ltb, leb, length, drop}
use Rattle.call.specs.declared.Call.{Call}
use Rattle.book.specs.declared.Verdict.{Verdict}
use Rattle.book.specs.Book.{first_version, second_version, most_records, most_keys, size_of, version_at, header_at, calls_of, book_bytes}
use Rattle.book.specs.Check.{refused, accepted}
use Rattle.rule.specs.Keys.{different_keys}
use Rattle.rule.specs.Joined.{join_calls}
use Rattle.pair.specs.Screening.{passes, screen}
use Rattle.join.specs.declared.Joined.{Joined}
use Rattle.join.specs.Turns.{ran}

-- what a join leaves: a refusal's number and place, or zeros; the joined book's length; the turns that it took; the lent output
pub record JoinOutcome : Type 0 where
  pub number : ℕ
  pub place : ℕ
  pub size : ℕ
  pub turns : ℕ
  pub out : List ℕ

-- the answer and the output at exit, as one outcome
abbrev pub join_outcome : Joined → List ℕ → JoinOutcome
join_outcome answer after = record { number = answer.number; place = answer.place; size = answer.length; turns = answer.turns; out = after }

-- a refusal: number and place, otherwise zeros; the output keeps its contents
abbrev pub join_refused : Verdict → List ℕ → JoinOutcome
join_refused v out = record { number = v.number; place = v.place; size = 0; turns = 0; out = out }

-- accepted after so many turns: the book stands at the start of the output, and the bytes after it stay
abbrev pub join_wrote : List ℕ → ℕ → List ℕ → JoinOutcome
join_wrote book turns out = record { number = 0; place = 0; size = length book; turns = turns; out = book ++ drop (length book) out }

-- a lone book, which nothing was joined with: no turn
abbrev pub lone : List ℕ → JoinOutcome
lone book = record { number = 0; place = 0; size = length book; turns = 0; out = book }

-- how many different keys books have
unfoldable pub key_count : List (List ℕ) → ℕ
key_count bs = length (different_keys (map calls_of bs))

-- two books
abbrev pub keys_of_both : List ℕ → List ℕ → ℕ
keys_of_both first second = key_count (first ∷ second ∷ [])

-- 8: more keys than any book has; 9: an output too short for so many records
unfoldable pub overflow : ℕ → ℕ → Verdict
overflow keys room =
    cond (ltb most_keys keys) (refused 8 0)
    (cond (ltb room (size_of keys)) (refused 9 0)
    accepted)

-- the calls of the joined book
unfoldable pub joined_of : List ℕ → List ℕ → List Call
joined_of first second = join_calls (calls_of first) (calls_of second)

-- both books are of the first version, and there are no more keys than one of it has records
abbrev pub stays_first : ℕ → ℕ → ℕ → Bool
stays_first v w keys = eqb v first_version && eqb w first_version && leb keys (most_records first_version)

-- the version of what books of two versions give together, with so many keys: the first exactly there, otherwise the second
unfoldable pub pair_version : ℕ → ℕ → ℕ → ℕ
pair_version v w keys = cond (stays_first v w keys) first_version second_version

abbrev pub joined_version : List ℕ → List ℕ → ℕ
joined_version first second = pair_version (version_at first) (version_at second) (keys_of_both first second)

-- the joined book
abbrev pub joined_book : List ℕ → List ℕ → List ℕ
joined_book first second = book_bytes (joined_version first second) (header_at first) (joined_of first second)

-- two sound books of one month and area: 8, 9, or the joined book at the start of the output, and the bytes after it stay; a refusal changes nothing.
-- The turns are those of the run
unfoldable pub join_sound : List ℕ → List ℕ → List ℕ → JoinOutcome
join_sound first second out =
    cond (passes (overflow (keys_of_both first second) (length out))) (join_wrote (joined_book first second) (ran first second out).turns out)
    (join_refused (overflow (keys_of_both first second) (length out)) out)

-- any two books: the first book's refusal, the second's, 7, or what they give
unfoldable pub joining : List ℕ → List ℕ → List ℕ → JoinOutcome
joining first second out = cond (passes (screen first second)) (join_sound first second out) (join_refused (screen first second) out)
