-- Joining two lists of calls, key by key. Assumes nothing.
use Rattle.std.specs.Prelude.{List, [], ◌∷◌, ℕ}
use Rattle.std.proofs.Math.Option.{Option, none, some}
use Rattle.call.specs.declared.Call.{Call}
use Rattle.rule.specs.Standing.{standing}
use Rattle.rule.specs.Keys.{record_of, different_keys, records_at}

-- of what two lists have for a key: a key in one only keeps its record; in both, the one that stands
unfoldable pub joined_at : Option Call → Option Call → Option Call
joined_at none none = none
joined_at (some x) none = some x
joined_at none (some y) = some y
joined_at (some x) (some y) = some (standing x y)

-- the joined record of a key
unfoldable pub joined_for : List Call → List Call → ℕ → Option Call
joined_for xs ys k = joined_at (record_of k xs) (record_of k ys)

-- for each of the different keys of the two lists, rising, its joined record
unfoldable pub join_calls : List Call → List Call → List Call
join_calls xs ys = records_at (joined_for xs ys) (different_keys (xs ∷ ys ∷ []))
