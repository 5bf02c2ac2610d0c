-- What a book has for a key, and the different keys of books. Assumes nothing.
use Rattle.std.specs.Prelude.{cond, List, [], ◌∷◌, ℕ, ltb, eqb}
use Rattle.std.proofs.Math.Option.{Option, none, some}
use Rattle.call.specs.declared.Call.{Call}
use Rattle.call.specs.Key.{call_key}

-- the record that a book has for a key
unfoldable pub record_of : ℕ → List Call → Option Call
record_of k [] = none
record_of k (c ∷ cs) = cond (eqb (call_key c) k) (some c) (record_of k cs)

-- a record, where there is one, in front of others
unfoldable pub also : Option Call → List Call → List Call
also none cs = cs
also (some c) cs = c ∷ cs

-- a key put among rising keys, once
unfoldable pub put : ℕ → List ℕ → List ℕ
put k [] = k ∷ []
put k (j ∷ js) = cond (ltb k j) (k ∷ j ∷ js) (cond (ltb j k) (j ∷ put k js) (j ∷ js))

-- the keys of calls put among them
unfoldable pub put_all : List Call → List ℕ → List ℕ
put_all [] js = js
put_all (c ∷ cs) js = put (call_key c) (put_all cs js)

-- the different keys of the books, rising
unfoldable pub different_keys : List (List Call) → List ℕ
different_keys [] = []
different_keys (b ∷ bs) = put_all b (different_keys bs)

-- a record for each of the keys, where there is one
unfoldable pub records_at : (ℕ → Option Call) → List ℕ → List Call
records_at f [] = []
records_at f (k ∷ ks) = also (f k) (records_at f ks)
