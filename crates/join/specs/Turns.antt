-- A join turn by turn: each turn settles one key, the lowest that either book still has, and writes its record once. Assumes nothing.
use Rattle.std.specs.Prelude.{List, [], ◌∷◌, ◌++◌, ℕ, zero, suc, ◌+◌, min, length}
use Rattle.std.proofs.Math.Option.{Option, none, some}
use Rattle.std.proofs.lemmas.List.Edits.{sets}
use Rattle.call.specs.declared.Call.{Call}
use Rattle.call.specs.Key.{call_key}
use Rattle.call.specs.Layout.{call_bytes}
use Rattle.book.specs.Book.{place_of, calls_of}
use Rattle.book.specs.Without.{without}
use Rattle.rule.specs.Joined.{joined_for}

-- how far a join has come: what is left of both books' calls, the output, and how many turns were taken
pub record Run : Type 0 where
  pub first : List Call
  pub second : List Call
  pub out : List ℕ
  pub turns : ℕ

-- the lower of a key and another, if there is another
unfoldable pub lower_of : ℕ → Option ℕ → Option ℕ
lower_of k none = some k
lower_of k (some l) = some (min k l)

-- the lowest key of calls, if there is a call
unfoldable pub lowest_key : List Call → Option ℕ
lowest_key [] = none
lowest_key (c ∷ cs) = lower_of (call_key c) (lowest_key cs)

-- a record to its place behind so many others
unfoldable pub placed : Option Call → ℕ → List ℕ → List ℕ
placed none n out = out
placed (some c) n out = sets out (place_of n) (call_bytes c)

-- a turn: the joined record of a key to its place, and the key is taken from both books; where no key is left, nothing
unfoldable pub turn_for : Option ℕ → Run → Run
turn_for none r = r
turn_for (some k) r =
    record {
      first = without k r.first;
      second = without k r.second;
      out = placed (joined_for r.first r.second k) r.turns r.out;
      turns = suc r.turns;
    }

-- of the lowest key that is left
unfoldable pub turn : Run → Run
turn r = turn_for (lowest_key (r.first ++ r.second)) r

-- so many turns
unfoldable pub turns_run : ℕ → Run → Run
turns_run zero r = r
turns_run (suc t) r = turn (turns_run t r)

-- before the first turn
unfoldable pub begun : List ℕ → List ℕ → List ℕ → Run
begun first second out = record { first = calls_of first; second = calls_of second; out = out; turns = 0 }

-- until no key is left: a turn takes at least one call, so that as many turns as there are calls are enough
unfoldable pub ran : List ℕ → List ℕ → List ℕ → Run
ran first second out = turns_run (length (calls_of first) + length (calls_of second)) (begun first second out)
