-- Tabs brought forward over a join: from the old tabs, the incoming calls, and at keys that both books have the first book's record and the one that stands.
-- Assumes nothing.
use Rattle.std.specs.Prelude.{cond, List, [], ◌∷◌, ℕ, zero, suc, ◌+◌, ◌-◌, eqb}
use Rattle.std.proofs.Math.Option.{Option, none, some}
use Rattle.call.specs.declared.Call.{Call}
use Rattle.call.specs.Key.{call_key}
use Rattle.call.specs.Revising.{live, contested, withdrawn}
use Rattle.call.specs.Services.{most_participant}
use Rattle.rule.specs.Standing.{standing}
use Rattle.rule.specs.Keys.{record_of, also}
use Rattle.tabs.specs.declared.Tab.{Tab}
use Rattle.tabs.specs.Tabs.{own_of, of_state}

-- the records that the first book has at the incoming keys
unfoldable pub replaced : List Call → List Call → List Call
replaced xs [] = []
replaced xs (y ∷ ys) = also (record_of (call_key y) xs) (replaced xs ys)

-- an incoming call: the record that stands against the first book's of that key, or the call itself where the first book has none
unfoldable pub stands_against : Option Call → Call → Call
stands_against none y = y
stands_against (some x) y = standing x y

-- the records that stand at the incoming keys
unfoldable pub settled : List Call → List Call → List Call
settled xs [] = []
settled xs (y ∷ ys) = stands_against (record_of (call_key y) xs) y ∷ settled xs ys

-- how many of a member's calls are in a state: as many as before, and those that stand at the incoming keys, less those that the first book had there
abbrev pub forward_state : ℕ → List Call → List Call → ℕ → ℕ → ℕ
forward_state before xs ys m s = (before + of_state s (own_of m (settled xs ys))) - of_state s (own_of m (replaced xs ys))

-- a member's calls: those of the three states
unfoldable pub forward_count : (ℕ → Tab) → List Call → List Call → ℕ → ℕ
forward_count old xs ys m =
    forward_state (old m).live xs ys m live + forward_state (old m).contested xs ys m contested + forward_state (old m).withdrawn xs ys m withdrawn

-- the counts of members 1 to n together
unfoldable pub sum_to : (ℕ → ℕ) → ℕ → ℕ
sum_to f zero = 0
sum_to f (suc n) = sum_to f n + f (suc n)

-- a member's index: behind the calls of the members below it; of a member that has none, the count of all calls
unfoldable pub index_by : (ℕ → ℕ) → ℕ → ℕ
index_by counts m = cond (eqb (counts m) 0) (sum_to counts most_participant) (sum_to counts (m - 1))

-- each member's tab brought forward
unfoldable pub brought_forward : (ℕ → Tab) → List Call → List Call → ℕ → Tab
brought_forward old xs ys m =
    record {
      index = index_by (forward_count old xs ys) m;
      count = forward_count old xs ys m;
      live = forward_state (old m).live xs ys m live;
      contested = forward_state (old m).contested xs ys m contested;
      withdrawn = forward_state (old m).withdrawn xs ys m withdrawn;
    }
