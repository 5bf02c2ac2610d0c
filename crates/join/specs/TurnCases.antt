-- Joins of a few records and what they tell, worked out by hand apart from the definitions. Assumes nothing.
use Rattle.std.specs.Prelude.{Bool, true, false, ◌&&◌, List, [], ◌∷◌, map, ℕ, suc, eqb, pos, length, take, drop, replicate}
use Rattle.call.specs.declared.Call.{Call}
use Rattle.call.specs.Revising.{call_withdrawn, live}
use Rattle.call.specs.Services.{start_stop}
use Rattle.book.specs.declared.Header.{Header}
use Rattle.book.specs.Book.{first_version, header_size, size_of, place_of, calls_from, book_bytes}
use Rattle.rule.specs.Standing.{same_call}
use Rattle.join.specs.Turns.{Run, turns_run, begun}
use Rattle.join.specs.Joining.{JoinOutcome, joining}
use Rattle.join.specs.Chain.{chain, empty_book, sum, turns_of, most_turns}

-- two books by their calls, joined into an output of so many bytes: the number, the length and the turns told; the calls that stand in the output after one turn, after two, and
-- so on; a chain of books from an empty one: the turns of each join, and what they come to; counts of a chain's books, and its bound
pub data TurnCase : Type 0 where
  Joins : List Call → List Call → (room number size turns : ℕ) → TurnCase
  Stands : List Call → List Call → List (List Call) → TurnCase
  Chains : List (List Call) → List ℕ → (all : ℕ) → TurnCase
  Bounds : List ℕ → (most : ℕ) → TurnCase

-- March 2026, area 12
abbrev pub case_month : Header
case_month = record { area = 12; year = 2026; month = 3 }

-- a start-stop call of member 3, by its call number, of so many minutes at a revision
abbrev pub call_of : ℕ → ℕ → ℕ → Call
call_of number revision minutes =
    record { participant = 3; service = start_stop; state = live; number = number; revision = revision; start = 600; length = minutes; a = pos 0; b = 0; c = 0 }

-- at its first revision
abbrev pub call : ℕ → Call
call number = call_of number 1 300

abbrev pub case_book : List Call → List ℕ
case_book cs = book_bytes first_version case_month cs

-- an output of so many bytes, each a 7, so that what is written shows
abbrev pub lent : ℕ → List ℕ
lent room = replicate room 7

abbrev pub turn_cases : List TurnCase
turn_cases =
    -- two and three records, one key in common; disjoint; a book with itself; two empty books
    Joins (call 1 ∷ call 2 ∷ []) (call 2 ∷ call 3 ∷ call 4 ∷ []) 176 0 144 4
    ∷ Joins (call 1 ∷ call 2 ∷ []) (call 3 ∷ call 4 ∷ call 5 ∷ []) 176 0 176 5
    ∷ Joins (call 1 ∷ call 2 ∷ []) (call 1 ∷ call 2 ∷ []) 176 0 80 2
    ∷ Joins [] [] 16 0 16 0
    -- two unequal live records at one revision, which strike each other, are one turn; so is a withdrawn one against a live one
    ∷ Joins (call_of 1 1 300 ∷ []) (call_of 1 1 240 ∷ []) 48 0 48 1
    ∷ Joins (call_withdrawn (call 1) ∷ []) (call_of 1 2 240 ∷ []) 48 0 48 1
    -- into one byte too few
    ∷ Joins (call 1 ∷ call 2 ∷ []) (call 2 ∷ call 3 ∷ call 4 ∷ []) 143 9 0 0
    -- keys 1, 4 and 2, 4, 5, turn by turn; of key 4 the second book has a later revision
    ∷ Stands (call 1 ∷ call 4 ∷ []) (call 2 ∷ call_of 4 2 240 ∷ call 5 ∷ [])
    ((call 1 ∷ [])
    ∷ (call 1 ∷ call 2 ∷ [])
    ∷ (call 1 ∷ call 2 ∷ call_of 4 2 240 ∷ [])
    ∷ (call 1 ∷ call 2 ∷ call_of 4 2 240 ∷ call 5 ∷ [])
    ∷ [])
    -- 2, 3 and 1 records, the first two books disjoint, the last one's key known
    ∷ Chains ((call 1 ∷ call 2 ∷ []) ∷ (call 3 ∷ call 4 ∷ call 5 ∷ []) ∷ (call 4 ∷ []) ∷ []) (2 ∷ 5 ∷ 5 ∷ []) 12
    ∷ Bounds (2 ∷ 3 ∷ 1 ∷ []) 13
    -- the example month's six books, and four books of 600 calls
    ∷ Bounds (5 ∷ 2 ∷ 6 ∷ 3 ∷ 1 ∷ 4 ∷ []) 79
    ∷ Bounds (600 ∷ 600 ∷ 600 ∷ 600 ∷ []) 5600
    ∷ []

unfoldable pub same_numbers : List ℕ → List ℕ → Bool
same_numbers [] [] = true
same_numbers (m ∷ ms) (n ∷ ns) = eqb m n && same_numbers ms ns
same_numbers [] (n ∷ ns) = false
same_numbers (m ∷ ms) [] = false

unfoldable pub same_calls : List Call → List Call → Bool
same_calls [] [] = true
same_calls (c ∷ cs) (d ∷ ds) = same_call c d && same_calls cs ds
same_calls [] (d ∷ ds) = false
same_calls (c ∷ cs) [] = false

-- number, length and turns as told, and every byte behind the length as lent: behind a refusal, which has no length, every byte
unfoldable pub tells : JoinOutcome → List ℕ → (number size turns : ℕ) → Bool
tells o out number size turns =
    eqb o.number number && eqb o.size size && eqb o.turns turns && same_numbers (drop size o.out) (drop size out)

-- after so many turns and each that follows: these calls, and every other byte as lent
unfoldable pub stands_from : ℕ → Run → List (List Call) → Bool
stands_from t start [] = true
stands_from t start (cs ∷ css) =
    same_calls (calls_from (turns_run t start).out 0 t) cs
    && same_numbers (take header_size (turns_run t start).out) (take header_size start.out)
    && same_numbers (drop (place_of t) (turns_run t start).out) (drop (place_of t) start.out)
    && stands_from (suc t) start css

-- the turns of a chain of books from an empty one, each with room for five records
unfoldable pub chain_turns : List (List Call) → List ℕ
chain_turns bs = turns_of (chain (empty_book case_month (lent header_size)) (map (λ cs. record { book = case_book cs; out = lent (size_of 5) }) bs))

-- the definitions answer as was worked out
unfoldable pub answers_as : TurnCase → Bool
answers_as (Joins first second room number size turns) = tells (joining (case_book first) (case_book second) (lent room)) (lent room) number size turns
answers_as (Stands first second after) = stands_from 1 (begun (case_book first) (case_book second) (lent (size_of (length after)))) after
answers_as (Chains bs turns all) = same_numbers (chain_turns bs) turns && eqb (sum (chain_turns bs)) all
answers_as (Bounds counts most) = eqb (most_turns 0 counts) most

unfoldable pub all_answer : List TurnCase → Bool
all_answer [] = true
all_answer (c ∷ cs) = answers_as c && all_answer cs
