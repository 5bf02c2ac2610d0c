-- What inner contracts speak of, and no sentence of the paper: a join as steps, each of which settles one key. Assumes nothing.
use Rattle.std.specs.Prelude.{◌≡◌, ◌⊎◌, List, [], ◌++◌, ℕ, suc, ◌+◌, ◌-◌, ◌/◌, ◌<◌, ◌≤◌, length}
use Rattle.le.specs.Le.{le_at, le_bytes}
use Rattle.call.specs.declared.Call.{Call}
use Rattle.call.specs.Key.{call_key}
use Rattle.call.specs.Layout.{record_size, reserved_at, call_at}
use Rattle.book.specs.Book.{header_size, place_of, count_at, calls_from}
use Rattle.rule.specs.Standing.{standing}
use Rattle.pair.specs.Screening.{IsAccepted}
use Rattle.join.specs.declared.Next.{Next}
use Rattle.join.specs.declared.Words.{Words}
use Rattle.join.specs.declared.Reached.{Reached}
use Rattle.join.specs.Turns.{Run, turn, turns_run, begun}

-- what is left of n records from record i on
unfoldable pub left_of : List ℕ → ℕ → ℕ → List Call
left_of b n i = calls_from b i (n - i)

-- a book has a record from a place on, and the record's last four bytes are zero
pub record RecordLies (b : List ℕ) (at : ℕ) : Type 0 where
  pub long : at + record_size ≤ length b
  pub zeros : reserved_at b at ≡ 0

-- four times eight bytes, as numbers and as bytes
pub record Spells (b : List ℕ) (at : ℕ) (w : Words) : Type 0 where
  pub who : w.who ≡ le_at b at 8
  pub time : w.time ≡ le_at b (at + 8) 8
  pub terms : w.terms ≡ le_at b (at + 16) 8
  pub rest : w.rest ≡ le_at b (at + 24) 8

abbrev pub word_bytes : Words → List ℕ
word_bytes w = le_bytes 8 w.who ++ le_bytes 8 w.time ++ le_bytes 8 w.terms ++ le_bytes 8 w.rest

-- the next key of two records, x from place a on and y from place b on: its record z, and the places behind it
pub data KeySettled (x y : Call) (a b p q : ℕ) (z : Call) : Type 0 where
  lower : call_key x < call_key y → p ≡ a + record_size → q ≡ b → z ≡ x → KeySettled x y a b p q z
  upper : call_key y < call_key x → p ≡ a → q ≡ b + record_size → z ≡ y → KeySettled x y a b p q z
  equal : call_key x ≡ call_key y → p ≡ a + record_size → q ≡ b + record_size → z ≡ standing x y → KeySettled x y a b p q z

-- a key is settled, and counted
pub record KeyCounted (first : List ℕ) (a : ℕ) (second : List ℕ) (b : ℕ) (s : Next) : Type 0 where
  pub call : Call
  pub settled : KeySettled (call_at first a) (call_at second b) a b s.first s.second call

-- an accepted book that is read up to a place: the place of one of its records, or its end
pub record ReadTo (b : List ℕ) (at : ℕ) : Type 0 where
  pub accepted : IsAccepted b
  pub index : ℕ
  pub place : at ≡ place_of index
  pub within : index ≤ count_at b

-- what is left of a book's calls from a place on
unfoldable pub left_from : List ℕ → ℕ → List Call
left_from b at = left_of b (count_at b) ((at - header_size) / record_size)

-- how far a join has come, by the places up to which both books are read
abbrev pub stands : List ℕ → ℕ → List ℕ → ℕ → List ℕ → ℕ → Run
stands first a second b out t = record { first = left_from first a; second = left_from second b; out = out; turns = t }

-- a turn while both books have records
pub record TurnTaken (first : List ℕ) (a : ℕ) (second : List ℕ) (b : ℕ) (before : List ℕ) (t : ℕ) (r : Reached) (after : List ℕ) : Type 0 where
  pub is : turn (stands first a second b before t) ≡ stands first r.first second r.second after r.turns
  pub counted : r.turns ≡ suc t
  pub in_first : ReadTo first r.first
  pub in_second : ReadTo second r.second
  pub further : a + b < r.first + r.second

-- turns from the beginning up to the end of one book
pub record TurnsTaken (first second before : List ℕ) (r : Reached) (after : List ℕ) : Type 0 where
  pub is : turns_run r.turns (begun first second before) ≡ stands first r.first second r.second after r.turns
  pub in_first : ReadTo first r.first
  pub in_second : ReadTo second r.second
  pub ended : (length first ≤ r.first) ⊎ (length second ≤ r.second)

-- how far a join has come whose second book is used up, and one whose first is
abbrev pub first_left : List ℕ → ℕ → List ℕ → ℕ → Run
first_left b at out t = record { first = left_from b at; second = []; out = out; turns = t }

abbrev pub second_left : List ℕ → ℕ → List ℕ → ℕ → Run
second_left b at out t = record { first = []; second = left_from b at; out = out; turns = t }

-- a turn where the other book is used up, whichever of the two that is
pub record LastTurn (b : List ℕ) (at : ℕ) (before : List ℕ) (t r : ℕ) (after : List ℕ) : Type 0 where
  pub as_first : turn (first_left b at before t) ≡ first_left b (at + record_size) after r
  pub as_second : turn (second_left b at before t) ≡ second_left b (at + record_size) after r
  pub counted : r ≡ suc t

-- turns up to a place where the other book is used up
pub record LastTurns (b : List ℕ) (at : ℕ) (before : List ℕ) (t to r : ℕ) (after : List ℕ) : Type 0 where
  pub taken : ℕ
  pub counted : r ≡ taken + t
  pub as_first : turns_run taken (first_left b at before t) ≡ first_left b to after r
  pub as_second : turns_run taken (second_left b at before t) ≡ second_left b to after r

-- no key is left
abbrev pub over : List ℕ → ℕ → Run
over out t = record { first = []; second = []; out = out; turns = t }
